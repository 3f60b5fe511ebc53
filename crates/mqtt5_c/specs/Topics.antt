-- Topics and topic filters of C's bytes (MQTT 5.0 section 4.7).
use Rattle.std.specs.Prelude.{◌≡◌, ℕ, true, false, List, length, ◌==◌}
use Rattle.std.specs.Str.{IsUtf8}
use Rattle.mqtt5_base.specs.Grammar.{is_among}
use Rattle.mqtt5_base.specs.Topics.{is_valid_topic, is_valid_filter, topic_matches}

-- UTF-8 without U+0000 (1.5.4)
abbrev pub IsText : List ℕ → Type 0
IsText t = IsUtf8 t × (is_among t 0 ≡ false)

-- a topic without wildcards (4.7.1); with a topic alias it may be empty (3.3.2.3.4)
abbrev pub IsTopicName : List ℕ → Type 0
IsTopicName t = IsText t × (is_valid_topic t ≡ true)

-- the topic of a publish without a topic alias (4.7.3)
abbrev pub IsTopic : List ℕ → Type 0
IsTopic t = IsTopicName t × ((length t == 0) ≡ false)

-- a topic filter (4.7.1, 4.7.3)
abbrev pub IsTopicFilter : List ℕ → Type 0
IsTopicFilter t = IsText t × (is_valid_filter t ≡ true)

-- a topic that a filter matches (4.7.1, 4.7.2)
abbrev pub Matches : List ℕ → List ℕ → Type 0
Matches topic filter = IsUtf8 topic × IsUtf8 filter × (topic_matches topic filter ≡ true)
