-- What each step keeps on a sheet: one clause a step.
use Prim.Native.Nat.{ℕ, ◌≤◌, min, max}
use native.Mathlib.Omega.{arith}
use mathlib.Core.Path.{◌≡◌, refl}
use mathlib.Core.Bool.{true, false, not}
use mathlib.Core.Option.{none}
use borrow.Author.Tests.{ltb-false}
use lib.ListN.{length}
use Rattle.foil_spec.specs.Limits.{max_entries}
use Rattle.foil_spec.specs.Foil.{Entry, Layout}
use Rattle.foil_spec.specs.Nets.{of_net}
use Rattle.foil_spec.specs.Ledger.{Room, too_long, Step, new_foil, draw, lay, lift, look_up, put_leg, save, find, book}
use Rattle.foil_spec.specs.Ledger.{slip, join, carry, next, says, first, reads, refusals}
use Rattle.foil_spec.specs.Sheet.{writes}
use Rattle.list_laws.proofs.Tests.{clash}
use Rattle.list_laws.proofs.Members.{length-keep}
use Rattle.ledger_laws.proofs.Refusals.{none-applies}
use Rattle.sheet_laws.specs.Answers.{taken}
use Rattle.sheet_laws.specs.Line.{SheetLine}

-- a row that is not too long has no more entries than its limit
within : (r : Room) (l : Layout) (n : ℕ) → too_long r l ≡ false → length l.entries ≤ max r.limit n
unfolding too_long
within r l n h = omega (arith, ltb-false (min max_entries r.limit) (length l.entries) h)

-- a step that writes the table
writing : (s : Step) → writes s ≡ true → ((l : Layout) → taken (says s l) ≡ true)
    → ((r : Room) (l : Layout) → first (refusals s r l) ≡ none
    → length (next s l).entries ≤ max r.limit (length l.entries))
    → SheetLine s
writing s w t f = record { still = λ e l. clash w e; seen = λ e. clash w e; told = t; fits = f }

-- a step that only reads the foil
reading : (s : Step) → reads s ≡ true → ((l : Layout) → taken (says s l) ≡ true) → ((l : Layout) → next s l ≡ l)
    → SheetLine s
reading s w t f =
    record { still = λ e l. f l; seen = λ e. w; told = t; fits = λ r l e. rw (f l) (omega arith) }

pub sheet-line : (s : Step) → SheetLine s
unfolding writes reads next says refusals taken
sheet-line (new_foil W H c) = writing (new_foil W H c) refl (λ l. refl) (λ r l e. omega arith)
sheet-line (draw x0 y0 x1 y1) =
    writing (draw x0 y0 x1 y1) refl (λ l. refl)
    (λ r l e. within r (next (draw x0 y0 x1 y1) l) _ (search none-applies))
sheet-line (lay net S T) =
    writing (lay net S T) refl (λ l. refl) (λ r l e. within r (next (lay net S T) l) _ (search none-applies depth 9))
sheet-line (lift net) =
    writing (lift net) refl (λ l. refl)
    (λ r l e. omega (arith, length-keep (λ (x : Entry). not (of_net net x)) l.entries))
sheet-line (look_up p) = reading (look_up p) refl (λ l. refl) (λ l. refl)
sheet-line (put_leg x) =
    writing (put_leg x) refl (λ l. refl) (λ r l e. within r (next (put_leg x) l) _ (search none-applies))
sheet-line save = reading save refl (λ l. refl) (λ l. refl)
sheet-line (find S T) = reading (find S T) refl (λ l. refl) (λ l. refl)
sheet-line (book net ks) =
    writing (book net ks) refl (λ l. refl) (λ r l e. within r (next (book net ks) l) _ (search none-applies))
sheet-line slip = reading slip refl (λ l. refl) (λ l. refl)
sheet-line (join net S) =
    writing (join net S) refl (λ l. refl) (λ r l e. within r (next (join net S) l) _ (search none-applies depth 9))
sheet-line (carry o) =
    writing (carry o) refl (λ l. refl) (λ r l e. within r (next (carry o) l) _ (search none-applies depth 9))
