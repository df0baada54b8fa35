-- Records put one after the other: their numbers of two bytes each, patches and legs, and the whole file.
use Prim.Native.Nat.{ℕ, ◌+◌, ◌*◌, ◌≤◌, ◌<◌}
use native.Mathlib.Omega.{arith}
use native.Mathlib.Numerals.{add-one}
use mathlib.Core.Path.{◌≡◌, ap, ◌∙◌}
use mathlib.Core.List.{List, [], ◌∷◌, ◌++◌, map}
use lib.ListN.{length, get_or, take}
use lib.Seq.{take-suc, take_all}
use borrow.Author.Tests.{eq-eqb, ne_eqb}
use Rattle.foil_spec.specs.Lists.{range, each}
use Rattle.foil_spec.specs.Foil.{Entry, entry_numbers, Pen}
use Rattle.foil_spec.specs.Lent.{entry_at, layout_of}
use Rattle.foil_spec.specs.Saving.{two_bytes, board_bytes, patch_bytes, leg_bytes, entry_bytes, job_of}
use Rattle.list_laws.proofs.Members.{each_append}
use Rattle.ledger_laws.proofs.FileSize.{entries-size}
use Rattle.ledger_laws.proofs.Sound.{length-read}
use Rattle.putting.specs.Put.{Put}
use Rattle.putting.proofs.Putting.{put_then}

-- ---- numbers

-- the place after a number
pub two-next : {o o₁ : List ℕ} {at r : ℕ} (n : ℕ) → Put o at (two_bytes n) o₁ r → r ≡ at + 2
unfolding two_bytes
two-next n p = p.next

-- the first k numbers of a list are put
module _ (l : List ℕ) {o o₁ : List ℕ} {at a : ℕ} (k : ℕ) (p : Put o at (each two_bytes (take k l)) o₁ a) where
  one_more : k < length l → each two_bytes (take (k + 1) l) ≡ each two_bytes (take k l) ++ two_bytes (get_or l k 0)
  unfolding two_bytes
  one_more h =
      ap (λ (j : ℕ). each two_bytes (take j l)) (add-one k)
      ∙ ap (each two_bytes) (take-suc l k 0 h)
      ∙ each_append two_bytes (take k l) (get_or l k 0 ∷ [])

  pub numbers_more : k < length l → {o₂ : List ℕ} {r : ℕ} → Put o₁ a (two_bytes (get_or l k 0)) o₂ r
      → Put o at (each two_bytes (take (k + 1) l)) o₂ r
  numbers_more h q = rw (one_more h) (put_then p q)

  pub numbers-all : length l ≤ k → Put o at (each two_bytes l) o₁ a
  numbers-all h = rw (take_all k l h) at p

-- ---- an entry

module _ (e : Entry) {o o₁ : List ℕ} {at r : ℕ} where
  pub patch-put : e.net ≡ 0 → Put o at (2 ∷ each two_bytes (e.x0 ∷ e.y0 ∷ e.x1 ∷ e.y1 ∷ [])) o₁ r
      → Put o at (entry_bytes e) o₁ r
  unfolding entry_bytes patch_bytes
  patch-put z p = rw (eq-eqb e.net 0 z) p

  pub leg-put : (e.net ≡ 0 → ⊥) → Put o at (16 ∷ each two_bytes (e.net ∷ e.x0 ∷ e.y0 ∷ e.x1 ∷ e.y1 ∷ [])) o₁ r
      → Put o at (entry_bytes e) o₁ r
  unfolding entry_bytes leg_bytes entry_numbers
  leg-put z p = rw (ne_eqb e.net 0 z) p

-- the place after the entries of a table
pub entries_next : (t : List ℕ) (n : ℕ) {o o₁ : List ℕ} {at r : ℕ}
    → Put o at (each entry_bytes (map (entry_at t) (range 0 n))) o₁ r → r ≤ at + 11 * n
entries_next t n p = omega (arith, p.next, entries-size (map (entry_at t) (range 0 n)), length-read t n)

-- ---- the file

module _ (w h : ℕ) (p : Pen) {o o₁ : List ℕ} {a : ℕ}
    (board : Put o 0 (33 ∷ each two_bytes (w ∷ h ∷ 0 ∷ p.half ∷ p.gap ∷ [])) o₁ a) where
  pub board-next : a ≡ 11
  unfolding two_bytes
  board-next = board.next

  pub file-put : (n : ℕ) (t : List ℕ) {o₂ o₃ : List ℕ} {b r : ℕ}
      → Put o₁ a (each entry_bytes (map (entry_at t) (range 0 n))) o₂ b → Put o₂ b (0 ∷ []) o₃ r
      → Put o 0 (job_of (layout_of w h p n t)) o₃ r
  unfolding job_of board_bytes layout_of
  file-put n t entries mark = put_then board (put_then entries mark)
