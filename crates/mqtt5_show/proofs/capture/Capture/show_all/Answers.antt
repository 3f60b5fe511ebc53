use Rattle.std.proofs.Common.{[], List, ℕ, ◌++◌, refl, sym, ap, subst, ◌∙◌, append-nil}
use Rattle.std.proofs.KnownBytes.{Consumes-nil, Consumes-trans}
use Rattle.mqtt5_codec.specs.declared.codec.Codec.{Codec}
use Rattle.mqtt5_show.specs.Shown.{ShowsAll}
use Rattle.mqtt5_show.proofs.Showing.{shows_then}
use Rattle.mqtt5_show.proofs.capture.Capture.show_all.Goals as goal

pub loop-init : goal.loop-init
loop-init g c = record {
  codec = refl;
  digits = λ raw. raw;
  shown = λ raw. ([], [], Consumes-nil _, (sym (append-nil _), refl));
}

pub loop-preserved : goal.loop-preserved
loop-preserved g c = record {
  codec = c.in_ok-show_piece.ensures.codec ∙ c.loop.invariant.codec;
  digits = λ raw. c.in_ok-show_piece.ensures.digits (c.loop.invariant.digits raw);
  shown = λ raw.
      let (came, ps, consumed, shown) = c.loop.invariant.shown raw in
      let (more, qs, taken, end, after) = c.in_ok-show_piece.ensures.shown (c.loop.invariant.digits raw) in (
        came ++ more,
        ps ++ qs,
        Consumes-trans _ _ _ came more consumed taken,
        shows_then g.S.Screen.shows _ _ _ came more _ _ _ _ _ ps qs (ap (λ (x : Codec). x.max_incoming_size) c.loop.invariant.codec) shown after,
      );
}

pub returns-then-not-branch : goal.returns-then-not-branch
returns-then-not-branch g c = λ raw.
    let (came, ps, consumed, shown) = c.loop.invariant.shown raw in
    let (more, qs, taken, end, after) = c.in_ok-show_piece.ensures.shown (c.loop.invariant.digits raw) in (
      came ++ more,
      ps ++ qs,
      Consumes-trans _ _ _ came more consumed taken,
      end c.if-not-branch.true,
      subst (λ (left : List ℕ). ShowsAll g.S.Screen.shows c.args.self.now.codec.max_incoming_size (c.args.self.now.stream.items ++ (came ++ more)) c.args.screen.now (ps ++ qs) left c.show_piece.new.screen) c.in_ok-end.ensures
          (shows_then g.S.Screen.shows _ _ _ came more _ _ _ _ _ ps qs (ap (λ (x : Codec). x.max_incoming_size) c.loop.invariant.codec) shown after),
    )
