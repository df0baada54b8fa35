-- Where a foil's part of the table stands, for code that takes it out and puts it back.
use Prim.Native.Nat.{ℕ, zero, suc, ◌+◌, ◌*◌, ◌<◌}
use native.Mathlib.Omega.{arith}
use mathlib.Core.Path.{◌≡◌, refl, sym, ap, ap₂, ◌∙◌}
use mathlib.Core.List.{List, [], ◌∷◌, ◌++◌, append_assoc}
use lib.ListN.{length, get_or, set, take, drop}
use lib.Seq.{drop-drop, take-add}
use Rattle.foil_spec.specs.Limits.{table_size, sheet_size}
use Rattle.foil_spec.specs.Lent.{Lent, written}
use Rattle.foil_spec.specs.Sheet.{total, SheetLent, counts, parts, joined, table_at, put_back}
use Rattle.foil_spec.specs.declared.Board.{Board}
use Rattle.sheet_laws.specs.Places.{start_of, before, behind}

five-sum : (n m : ℕ) → 5 * n + 5 * m ≡ 5 * (n + m)
five-sum n m = omega arith

-- foil k's own
pub part_at : (ns : List ℕ) (k : ℕ) (t : List ℕ)
    → get_or (parts ns t) k [] ≡ take (5 * get_or ns k 0) (drop (start_of ns k) t)
unfolding parts start_of total
part_at [] k t = refl
part_at (n ∷ ns) zero t = refl
part_at (n ∷ ns) (suc k) t =
    part_at ns k (drop (5 * n) t)
    ∙ ap (λ (l : List ℕ). take (5 * get_or ns k 0) l) (drop-drop (5 * total (take k ns)) (5 * n) t)
    ∙ ap (λ (i : ℕ). take (5 * get_or ns k 0) (drop i t)) (five-sum n (total (take k ns)))

joined-parts : (ns t : List ℕ) → take (5 * total ns) t ≡ joined (parts ns t)
unfolding total parts joined
joined-parts [] t = refl
joined-parts (n ∷ ns) t =
    ap (λ (i : ℕ). take i t) (sym (five-sum n (total ns)))
    ∙ take-add (5 * n) (5 * total ns) t
    ∙ ap (λ (l : List ℕ). take (5 * n) t ++ l) (joined-parts ns (drop (5 * n) t))

before-later : (n : ℕ) (ns : List ℕ) (k : ℕ) (t : List ℕ)
    → before (n ∷ ns) (suc k) t ≡ take (5 * n) t ++ before ns k (drop (5 * n) t)
unfolding before start_of total
before-later n ns k t =
    ap (λ (i : ℕ). take i t) (sym (five-sum n (total (take k ns))))
    ∙ take-add (5 * n) (5 * total (take k ns)) t

behind-later : (n : ℕ) (ns : List ℕ) (k : ℕ) (t : List ℕ)
    → behind (n ∷ ns) (suc k) t ≡ behind ns k (drop (5 * n) t)
unfolding behind start_of total
behind-later n ns k t =
    let m : ℕ = 5 * total (drop (suc k) ns) in
    ap (λ (i : ℕ). take m (drop i t)) (sym (five-sum n (total (take (suc k) ns))))
    ∙ ap (λ (l : List ℕ). take m l) (sym (drop-drop (5 * total (take (suc k) ns)) (5 * n) t))

behind-first : (n : ℕ) (ns t : List ℕ) → behind (n ∷ ns) 0 t ≡ joined (parts ns (drop (5 * n) t))
unfolding behind start_of total
behind-first n ns t =
    let e : 5 * (n + 0) ≡ 5 * n = omega arith in
    ap (λ (i : ℕ). take (5 * total ns) (drop i t)) e ∙ joined-parts ns (drop (5 * n) t)

before-first : (ns t : List ℕ) → before ns 0 t ≡ []
unfolding before start_of total
before-first ns t = refl

-- what is before foil k, its new part and what is behind are the parts with that of foil k replaced
pub parts-replaced : (ns : List ℕ) (k : ℕ) (p t : List ℕ) → k < length ns
    → before ns k t ++ (p ++ behind ns k t) ≡ joined (set (parts ns t) k p)
unfolding parts joined
parts-replaced [] k p t l = absurd (omega arith)
parts-replaced (n ∷ ns) zero p t l =
    ap₂ (λ (x y : List ℕ). x ++ (p ++ y)) (before-first (n ∷ ns) t) (behind-first n ns t)
parts-replaced (n ∷ ns) (suc k) p t l =
    ap₂ (λ (x y : List ℕ). x ++ (p ++ y)) (before-later n ns k t) (behind-later n ns k t)
    ∙ append_assoc (take (5 * n) t) (before ns k (drop (5 * n) t)) (p ++ behind ns k (drop (5 * n) t))
    ∙ ap (λ (x : List ℕ). take (5 * n) t ++ x) (parts-replaced ns k p (drop (5 * n) t) (omega arith))

-- ---- what is taken out, and the table that is put back

pub taken_out : (k : ℕ) (bs : List Board) (t : List ℕ)
    → table_at k bs t ≡ written table_size (take (5 * get_or (counts bs) k 0) (drop (start_of (counts bs) k) t)) []
unfolding table_at
taken_out k bs t = ap (λ (p : List ℕ). written table_size p []) (part_at (counts bs) k t)

pub put-back : (k : ℕ) (m : SheetLent) (v : Lent) → k < length (counts m.boards)
    → (put_back k m v).table
    ≡ written sheet_size
    (before (counts m.boards) k m.table
    ++ (take (5 * v.board.entries) v.table ++ behind (counts m.boards) k m.table))
    m.table
unfolding put_back
put-back k m v here =
    ap (λ (p : List ℕ). written sheet_size p m.table)
    (sym (parts-replaced (counts m.boards) k (take (5 * v.board.entries) v.table) m.table here))
