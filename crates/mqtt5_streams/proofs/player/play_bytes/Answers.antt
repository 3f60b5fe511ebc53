use Rattle.std.proofs.Common.{◌<◌, arith}
use Rattle.std.proofs.lemmas.Result.{IfOk-weaker, IfErr-weaker}
use Rattle.mqtt5_streams.specs.Does.{codec_of}
use Rattle.mqtt5_streams.proofs.Runs.{reduces, counts}
use Rattle.mqtt5_streams.proofs.Played.{report_most, report_least, report_losses, report_once, report_settled, report_all_once, report_all_least, only_memory}
use Rattle.mqtt5_streams.proofs.player.play_bytes.Goals as goal

pub returns-clause-reduction : goal.returns-clause-reduction
returns-clause-reduction c =
    let small : c.args.limit < 65536 = omega arith in
    λ w is. reduces (codec_of c.args.incoming c.args.outgoing) c.args.limit small c.args.events.now w c.all_known.ensures is

pub returns-clause-counts : goal.returns-clause-counts
returns-clause-counts c =
    let small : c.args.limit < 65536 = omega arith in
    λ w content is. counts (codec_of c.args.incoming c.args.outgoing) c.args.limit small c.args.events.now w content c.all_known.ensures is

pub returns-clause-at_most_once : goal.returns-clause-at_most_once
returns-clause-at_most_once c =
    let small : c.args.limit < 65536 = omega arith in
    IfOk-weaker _ _ _ (report_most (codec_of c.args.incoming c.args.outgoing) c.args.limit small c.args.events.now c.all_known.ensures) c.played.ensures.ok

pub returns-clause-at_least_once : goal.returns-clause-at_least_once
returns-clause-at_least_once c =
    let small : c.args.limit < 65536 = omega arith in
    IfOk-weaker _ _ _ (report_least (codec_of c.args.incoming c.args.outgoing) c.args.limit small c.args.events.now c.all_known.ensures) c.played.ensures.ok

pub returns-clause-for_each_loss : goal.returns-clause-for_each_loss
returns-clause-for_each_loss c =
    let small : c.args.limit < 65536 = omega arith in
    IfOk-weaker _ _ _ (report_losses (codec_of c.args.incoming c.args.outgoing) c.args.limit small c.args.events.now c.all_known.ensures) c.played.ensures.ok

pub returns-clause-exactly_once : goal.returns-clause-exactly_once
returns-clause-exactly_once c =
    let small : c.args.limit < 65536 = omega arith in
    IfOk-weaker _ _ _ (report_once (codec_of c.args.incoming c.args.outgoing) c.args.limit small c.args.events.now c.all_known.ensures) c.played.ensures.ok

pub returns-clause-arrived : goal.returns-clause-arrived
returns-clause-arrived c =
    let small : c.args.limit < 65536 = omega arith in
    IfOk-weaker _ _ _ (report_settled (codec_of c.args.incoming c.args.outgoing) c.args.limit small c.args.events.now c.all_known.ensures) c.played.ensures.ok

pub returns-clause-arrived_exactly_once : goal.returns-clause-arrived_exactly_once
returns-clause-arrived_exactly_once c =
    let small : c.args.limit < 65536 = omega arith in
    IfOk-weaker _ _ _ (report_all_once (codec_of c.args.incoming c.args.outgoing) c.args.limit small c.args.events.now c.all_known.ensures) c.played.ensures.ok

pub returns-clause-arrived_at_least_once : goal.returns-clause-arrived_at_least_once
returns-clause-arrived_at_least_once c =
    let small : c.args.limit < 65536 = omega arith in
    IfOk-weaker _ _ _ (report_all_least (codec_of c.args.incoming c.args.outgoing) c.args.limit small c.args.events.now c.all_known.ensures) c.played.ensures.ok

pub returns-clause-answers : goal.returns-clause-answers
returns-clause-answers c =
    let small : c.args.limit < 65536 = omega arith in
    IfErr-weaker _ _ _ (only_memory (codec_of c.args.incoming c.args.outgoing) c.args.limit small c.args.events.now c.all_known.ensures) c.played.ensures.err
