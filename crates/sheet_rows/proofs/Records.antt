-- The records of the eight foils, and their numbers of entries.
use Prim.Native.Nat.{ℕ, ◌<◌}
use native.Mathlib.Omega.{arith}
use mathlib.Core.Path.{◌≡◌, sym, ◌∙◌}
use mathlib.Core.List.{List}
use lib.ListN.{length, get_or}
use lib.Seq.{ext_get_or}
use mir.Val.{Val}
use denote.Laws.{Is}
use denote.Struct.Laws as LL
use Rattle.foil_spec.specs.Limits.{sheet_foils}
use Rattle.foil_spec.specs.Sheet.{no_board, counts}
use Rattle.foil_spec.specs.declared.Board.{Board}
use Rattle.sheet_laws.proofs.Views.{counts-length, counts-at}
use Rattle.sheet_rows.specs.declared.Sheet.{Sheet}
use Rattle.sheet_rows.specs.contracts.Sheet as T
use Rattle.sheet_rows.proofs.Sheet.TheLaws as T'

-- an array of the code has its length
pub eight : (s : Sheet) {w : List Val} → Is T.the_row s w → length s.boards ≡ sheet_foils
eight s is = (LL.owed T.the_type T'.the_laws s _ is).0.1.0.1

-- numbers that were taken from the records one by one are their numbers of entries
pub counted : (bs : List Board) (ns : List ℕ) → length bs ≡ sheet_foils → length ns ≡ sheet_foils
    → ((i : ℕ) → i < sheet_foils → get_or ns i 0 ≡ (get_or bs i no_board).entries) → ns ≡ counts bs
counted bs ns eight long each =
    ext_get_or 0 ns (counts bs) (long ∙ sym (counts-length bs ∙ eight))
    (λ i l. each i (omega (arith, long)) ∙ sym (counts-at bs i))
