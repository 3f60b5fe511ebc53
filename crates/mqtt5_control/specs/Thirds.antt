-- This file serves the logic alone: the properties of a ConnAck in three parts.
use Rattle.std.specs.Prelude.{List, take, drop}
use Rattle.mqtt5_base.specs.Grammar.{Entry, Found}
use Rattle.mqtt5_control.specs.declared.connack.ConnAckProperties.{ConnAckProperties}
use Rattle.mqtt5_control.specs.Rows.{connack_table}
use Rattle.mqtt5_control.specs.ConnAcks.{connack_found}

-- the first six, the next six and the others
abbrev pub connack_first_table : List Entry
connack_first_table = take 6 connack_table

-- the second part of them
abbrev pub connack_second_table : List Entry
connack_second_table = take 6 (drop 6 connack_table)

-- the third part
abbrev pub connack_third_table : List Entry
connack_third_table = drop 12 connack_table

-- their values
abbrev pub connack_first : ConnAckProperties → Found
connack_first s = take 6 (connack_found s)

-- the second part of them
abbrev pub connack_second : ConnAckProperties → Found
connack_second s = take 6 (drop 6 (connack_found s))

-- the third part
abbrev pub connack_third : ConnAckProperties → Found
connack_third s = drop 12 (connack_found s)
