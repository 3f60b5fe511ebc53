use Rattle.mqtt5_streams.specs.Does.{codec_of}
use Rattle.mqtt5_streams.proofs.Played.{reported}
use Rattle.mqtt5_streams.proofs.player.played.Goals as goal

pub returns-clause-ok : goal.returns-clause-ok
returns-clause-ok c =
    reported (codec_of c.args.incoming c.args.outgoing) c.args.limit c.args.events.now _ _ c.play_all.new.self c.in_ok-world.ensures.ok c.in_default.ensures
    (record { handed = c.report.ensures.handed; accepted = c.report.ensures.accepted; refused = c.report.ensures.refused; state = c.report.ensures.state })
