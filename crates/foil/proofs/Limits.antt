-- The limits that a sound record keeps, and so its table.
use Prim.Native.Nat.{ℕ, ◌≤◌}
use native.Mathlib.Omega.{arith}
use mathlib.Core.Path.{◌≡◌}
use mathlib.Core.Bool.{true}
use mathlib.Core.List.{List}
use Rattle.foil_spec.specs.Limits.{max_entries}
use Rattle.foil_spec.specs.Foil.{pen_rule}
use Rattle.foil_spec.specs.Lent.{lent, layout_of, pen_in, held, sound}
use Rattle.foil_spec.specs.declared.Board.{Board}
use Rattle.zones.specs.Table.{Small, Sized, Table}
use Rattle.zones.proofs.Tables.{table_of, pen-small, foil-sized}
use Rattle.ledger_laws.proofs.Rules.{of-ok}
use Rattle.ledger_laws.proofs.Sound.{Sound, of-sound, sound-long}

pub record Held (b : Board) : Type 0 where
  pub few : b.entries ≤ max_entries
  pub small : Small (pen_rule (pen_in b))
  pub sized : Sized b.width b.height

pub held-limits : (b : Board) (t s : List ℕ) → Sound (lent b t s) → Held b
unfolding held layout_of
held-limits b t s k =
    let g = of-ok (held (lent b t s)) k.kept in
    record {
      few = k.few;
      small = pen-small (pen_in b) g.pen;
      sized = foil-sized b.width b.height g.width g.height;
    }

pub held-table : (b : Board) (t s : List ℕ) → sound (lent b t s) ≡ true
    → Table t b.entries (pen_rule (pen_in b)) b.width b.height
unfolding held layout_of
held-table b t s g =
    let k = of-sound (lent b t s) g in
    let limits = held-limits b t s k in
    table_of t b.entries (pen_rule (pen_in b)) b.width b.height limits.few
    (omega (arith, (sound-long (lent b t s) g).table, limits.few)) limits.small limits.sized
    (of-ok (held (lent b t s)) k.kept).entries
