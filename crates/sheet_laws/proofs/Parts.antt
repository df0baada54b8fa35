-- The table as the foils' parts, one after the other.
use Prim.Native.Nat.{ℕ, zero, suc, ◌-◌, ◌*◌, ◌≤◌}
use native.Mathlib.Omega.{arith}
use mathlib.Core.Path.{◌≡◌, refl, ap, ap₂, ◌∙◌}
use mathlib.Core.List.{List, [], ◌∷◌, ◌++◌, append_assoc}
use lib.ListN.{length, get_or, set, drop, replicate, length-append, length-take, length-drop}
use lib.Seq.{take_at, drop_at, take-append-le, drop-append-le}
use Rattle.foil_spec.specs.Lent.{written}
use Rattle.foil_spec.specs.Sheet.{total, parts, joined}

-- each part has five numbers an entry
abbrev pub Sized : List ℕ → List (List ℕ) → Type 0
Sized [] [] = Unit {0}
Sized [] (p ∷ ps) = ⊥
Sized (n ∷ ns) [] = ⊥
Sized (n ∷ ns) (p ∷ ps) = (length p ≡ 5 * n) × Sized ns ps

pub length-parts : (ns t : List ℕ) → length (parts ns t) ≡ length ns
unfolding parts
length-parts [] t = refl
length-parts (n ∷ ns) t = ap suc (length-parts ns (drop (5 * n) t))

-- a foil's part has no more numbers than its entries
pub part-few : (ns : List ℕ) (k : ℕ) (t : List ℕ) → length (get_or (parts ns t) k []) ≤ 5 * get_or ns k 0
unfolding parts
part-few [] k t = omega arith
part-few (n ∷ ns) zero t = omega (arith, length-take (5 * n) t)
part-few (n ∷ ns) (suc k) t = part-few ns k (drop (5 * n) t)

pub sized-parts : (ns t : List ℕ) → 5 * total ns ≤ length t → Sized ns (parts ns t)
unfolding total parts
sized-parts [] t h = tt
sized-parts (n ∷ ns) t h = (
  omega (arith, length-take (5 * n) t),
  sized-parts ns (drop (5 * n) t) (omega (arith, length-drop (5 * n) t)),
)

pub sized_set : (ns : List ℕ) (ps : List (List ℕ)) (k n : ℕ) (p : List ℕ) → Sized ns ps → length p ≡ 5 * n
    → Sized (set ns k n) (set ps k p)
sized_set [] [] k n p s e = tt
sized_set [] (q ∷ ps) k n p s e = absurd s
sized_set (m ∷ ns) [] k n p s e = absurd s
sized_set (m ∷ ns) (q ∷ ps) zero n p s e = (e, s.1)
sized_set (m ∷ ns) (q ∷ ps) (suc k) n p s e = (s.0, sized_set ns ps k n p s.1 e)

pub length-joined : (ns : List ℕ) (ps : List (List ℕ)) → Sized ns ps → length (joined ps) ≡ 5 * total ns
unfolding total joined
length-joined [] [] s = refl
length-joined [] (p ∷ ps) s = absurd s
length-joined (n ∷ ns) [] s = absurd s
length-joined (n ∷ ns) (p ∷ ps) s = omega (arith, length-append p (joined ps), s.0, length-joined ns ps s.1)

parts-joined : (ns : List ℕ) (ps : List (List ℕ)) (rest : List ℕ) → Sized ns ps → parts ns (joined ps ++ rest) ≡ ps
unfolding parts joined
parts-joined [] [] rest s = refl
parts-joined [] (p ∷ ps) rest s = absurd s
parts-joined (n ∷ ns) [] rest s = absurd s
parts-joined (n ∷ ns) (p ∷ ps) rest s =
    ap (parts (n ∷ ns)) (append_assoc p (joined ps) rest)
    ∙ ap₂ {A = List ℕ} {B = List (List ℕ)} {C = List (List ℕ)} (λ x xs. x ∷ xs)
    (take_at p (joined ps ++ rest) (5 * n) s.0)
    (ap (parts ns) (drop_at p (joined ps ++ rest) (5 * n) s.0) ∙ parts-joined ns ps rest s.1)

-- the parts of a table that is written are those that were joined
pub parts-written : (ns : List ℕ) (ps : List (List ℕ)) (m : ℕ) (t : List ℕ) → Sized ns ps
    → parts ns (written m (joined ps) t) ≡ ps
unfolding written
parts-written ns ps m t s = parts-joined ns ps (replicate (m - length (joined ps)) 0 ++ drop m t) s

-- what follows the parts does not belong to them
pub parts-append : (ns t u : List ℕ) → 5 * total ns ≤ length t → parts ns (t ++ u) ≡ parts ns t
unfolding total parts
parts-append [] t u h = refl
parts-append (n ∷ ns) t u h =
    ap₂ {A = List ℕ} {B = List (List ℕ)} {C = List (List ℕ)} (λ p ps. p ∷ ps)
    (take-append-le (5 * n) t u (omega arith))
    (ap (parts ns) (drop-append-le (5 * n) t u (omega arith))
    ∙ parts-append ns (drop (5 * n) t) u (omega (arith, length-drop (5 * n) t)))
