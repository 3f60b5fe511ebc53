-- This file serves the logic alone: each reason's code is one of its packet's.
use Rattle.std.specs.Prelude.{◌≡◌, true}
use Rattle.std.proofs.Common.{rules}
use Rattle.mqtt5_base.specs.Grammar.{number, passes}
use Rattle.mqtt5_publish.specs.declared.puback.PubAckReason.{PubAckReason}
use Rattle.mqtt5_publish.specs.declared.pubrel.PubRelReason.{PubRelReason}
use Rattle.mqtt5_publish.specs.Acks.{puback_code, pubrel_code}
use Rattle.mqtt5_publish.specs.Rows.{puback_codes, pubrel_codes}

-- of a PubAck and of a PubRec
pub puback_known : (r : PubAckReason) → passes puback_codes (number (puback_code r)) ≡ true
puback_known = search rules

-- of a PubRel and of a PubComp
pub pubrel_known : (r : PubRelReason) → passes pubrel_codes (number (pubrel_code r)) ≡ true
pubrel_known = search rules
