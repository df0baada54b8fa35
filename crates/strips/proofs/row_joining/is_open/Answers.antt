-- `strips::row_joining::is_open` meets its contract: the strip at place k is compared number by number.
use native.Mathlib.Omega.{arith}
use mathlib.Core.Path.{◌≡◌, sym, ap, ◌∙◌}
use mathlib.Core.Bool.{Bool, true, ◌&&◌}
use lib.Dec.{eqb}
use borrow.Author.Tests.{eqb-true, eq-eqb}
use Rattle.foil_spec.specs.Strips.{Strip}
use Rattle.foil_spec.specs.Lent.{listed_strip}
use Rattle.list_laws.proofs.Tests.{and_l, and_r, and_i}
use Rattle.strips.specs.Joining.{Opened}
use Rattle.strips.proofs.Deciding.{decided}
use Rattle.strips.proofs.row_joining.is_open.Goals as goal

pub returns : goal.returns
unfolding listed_strip
returns c =
    let s = c.strip_at-strip.ensures in
    let x0 : Bool = eqb c.strip_at-strip.result.x0 c.args.a in
    let x1 : Bool = eqb c.strip_at-strip.result.x1 c.args.b in
    let y1 : Bool = eqb c.strip_at-strip.result.y1 c.args.y in
    decided {P = Opened c.args.out.now c.args.k c.args.count c.args.a c.args.b c.args.y} _
    (λ q.
    let all : ((x0 && x1) && y1) ≡ true = sym c.eq.ensures ∙ q in
    let two : (x0 && x1) ≡ true = and_l (x0 && x1) y1 all in
    record {
      lt = c.if-count-k.false;
      is-x0 = omega (arith, ap (λ (t : Strip). t.x0) s, eqb-true _ _ (and_l x0 x1 two));
      is-x1 = omega (arith, ap (λ (t : Strip). t.x1) s, eqb-true _ _ (and_r x0 x1 two));
      is-y1 = omega (arith, ap (λ (t : Strip). t.y1) s, eqb-true _ _ (and_r (x0 && x1) y1 all));
    })
    (λ p.
    let h0 : x0 ≡ true =
    eq-eqb c.strip_at-strip.result.x0 c.args.a (omega (arith, ap (λ (t : Strip). t.x0) s, p.is-x0)) in
    let h1 : x1 ≡ true =
    eq-eqb c.strip_at-strip.result.x1 c.args.b (omega (arith, ap (λ (t : Strip). t.x1) s, p.is-x1)) in
    let h2 : y1 ≡ true =
    eq-eqb c.strip_at-strip.result.y1 c.args.y (omega (arith, ap (λ (t : Strip). t.y1) s, p.is-y1)) in
    c.eq.ensures ∙ and_i {a = x0 && x1} {b = y1} (and_i {a = x0} {b = x1} h0 h1) h2)
