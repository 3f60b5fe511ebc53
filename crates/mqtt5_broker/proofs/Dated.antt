-- The interval of a will that is published, or isn't after all.
use Rattle.std.proofs.Common.{◌≡◌, ℕ, Bool, Option, Result, Ok, Err, ap, ◌∙◌, not, ◌&&◌}
use Rattle.std.specs.Prelude.{option_map, OnErr}
use Rattle.mqtt5_sessions.specs.Sessions.{Sessions, dates, sent_again}
use Rattle.mqtt5_sessions.specs.Expiry.{will_expiry, will_is_delayed}
use Rattle.mqtt5_sessions.proofs.Delivered.{dated_back, sent_dated}
use Rattle.mqtt5_broker.specs.Broker.{Broker, sessions_dated}
use Rattle.mqtt5_broker.specs.Expiry.{begun}

-- the one that is written into it
abbrev interval_of : Bool → ℕ → Broker → Option ℕ
interval_of any i b = option_map (begun (not any && will_is_delayed i b.sessions) b.moment) (will_expiry i b.sessions)

-- and then the one before again
pub undated : {A B : Type 0} (r : Result A B) (i : ℕ) (any : Bool) (m : Option ℕ) (b x y z : Broker) → x ≡ record b { sessions = sessions_dated any i b } → m ≡ will_expiry i b.sessions
    → OnErr r (y ≡ x) → OnErr r (z ≡ record y { sessions = dates i m y.sessions }) → OnErr r (z ≡ b)
undated (Ok v) i any m b x y z there before left back = tt
undated (Err e) i any m b x y z there before left back =
    back
    ∙ (λ j. record ((left ∙ there) j) { sessions = dates i (before j) ((left ∙ there) j).sessions })
    ∙ ap (λ (u : Sessions). record b { sessions = u }) (dated_back i (interval_of any i b) b.sessions)

-- what a session sends again doesn't look at it
pub sent_the_same : (i : ℕ) (any : Bool) (m : Option ℕ) (b x : Broker) → x ≡ record b { sessions = sessions_dated any i b } → sent_again i m x.sessions ≡ sent_again i m b.sessions
sent_the_same i any m b x there = ap (λ (y : Broker). sent_again i m y.sessions) there ∙ sent_dated i (interval_of any i b) m b.sessions
