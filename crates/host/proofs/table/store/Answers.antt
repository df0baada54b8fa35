-- After i turns the first i places are stored over.
use Prim.Native.Nat.{ℕ}
use mathlib.Core.Path.{◌≡◌, refl, sym, ap, ap₂, ◌∙◌}
use mathlib.Core.Bool.{true, false, not, ◌&&◌}
use mathlib.Core.List.{List}
use lib.Dec.{eqb}
use lib.ListN.{get_or, set}
use Rattle.foil_spec.specs.Foil.{Entry, entry}
use Rattle.std.proofs.lemmas.Bool.{eqb-true}
use Rattle.list_laws.proofs.Tests.{and_l, and_r, not-ff}
use Rattle.host.specs.Flats.{no_entry}
use Rattle.host.proofs.Flats.{store-none, store-more, store_same}
use Rattle.host.proofs.table.store.Goals.{then-ne, else-ne}
use Rattle.host.proofs.table.store.Goals as goal

-- no number differs
entry-same : (d e : Entry) → false ≡ not (eqb d.net e.net && (eqb d.x0 e.x0 && (eqb d.y0 e.y0 && (eqb d.x1 e.x1 && eqb d.y1 e.y1)))) → d ≡ e
entry-same d e h =
    let all : (eqb d.net e.net && (eqb d.x0 e.x0 && (eqb d.y0 e.y0 && (eqb d.x1 e.x1 && eqb d.y1 e.y1)))) ≡ true =
    not-ff _ (sym h) in
    let net : d.net ≡ e.net = eqb-true _ _ (and_l _ _ all) in
    let rest : (eqb d.x0 e.x0 && (eqb d.y0 e.y0 && (eqb d.x1 e.x1 && eqb d.y1 e.y1))) ≡ true = and_r _ _ all in
    let x0 : d.x0 ≡ e.x0 = eqb-true _ _ (and_l _ _ rest) in
    let rest' = and_r _ _ rest in
    let y0 : d.y0 ≡ e.y0 = eqb-true _ _ (and_l _ _ rest') in
    let last = and_r _ _ rest' in
    let x1 : d.x1 ≡ e.x1 = eqb-true _ _ (and_l _ _ last) in
    let y1 : d.y1 ≡ e.y1 = eqb-true _ _ (and_r _ _ last) in
    let same : entry d.net d.x0 d.y0 d.x1 d.y1 ≡ entry e.net e.x0 e.y0 e.x1 e.y1 = rw (net, x0, y0, x1, y1) refl in
    same

pub loop-i-init : goal.loop-i-init
loop-i-init c = store-none _ _

pub loop-i-preserved : goal.loop-i-preserved
loop-i-preserved c =
    let k : ℕ = c.loop-i.i in
    elim c.if-ne.branch [
      | then-ne w ↦
          w.table-is
          ∙ ap₂ (λ (t : List Entry) (e : Entry). set t k e) c.loop-i.invariant c.entry_at-entry.ensures
          ∙ store-more c.args.numbers.now c.args.table.now k
      | else-ne w ↦
          w.table-is ∙ c.loop-i.invariant
          ∙ store_same c.args.numbers.now c.args.table.now k
          (ap (λ (t : List Entry). get_or t k no_entry) (sym c.loop-i.invariant)
          ∙ entry-same _ _ w.if-ne.ensures ∙ c.entry_at-entry.ensures)
    ]
