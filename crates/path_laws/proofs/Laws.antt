-- What `first_path_to` gives, in document 01's words, for every test f of free points that passes on the foil only.
use Prim.Native.Nat.{ℕ, ◌≤◌, ◌<◌}
use native.Mathlib.Omega.{arith}
use mathlib.Core.Path.{◌≡◌, refl, sym, ap}
use mathlib.Core.Bool.{Bool, true}
use mathlib.Core.List.{List}
use mathlib.Core.Option.{Option, none, some}
use mathlib.Core.Logic.{◌⊎◌, inl, inr, ⊎_elim}
use Rattle.foil_spec.specs.Foil.{Point}
use Rattle.foil_spec.specs.Paths.{is_path_to, bends, corners_before, path_length, before, first_path_to}
use Rattle.path_laws.specs.First.{IsFirst}
use Rattle.path_laws.proofs.Order.{of-before, corners-both}
use Rattle.path_laws.proofs.FirstPath.{nothing-missed, given-path, given-fewest, given-first}

-- a path of fewest bends that no other one comes before, in the order of paths, is the first one
module _ (f : ℕ → ℕ → Bool) (S : Point) (T : Point → Bool) (cs : List Point) where
  -- cs is that path, or comes before it
  abbrev NoLater : List Point → Type 0
  NoLater ds = (cs ≡ ds) ⊎ (before cs ds ≡ true)

  no_longer : (ds : List Point) → NoLater ds → path_length cs ≤ path_length ds
  no_longer ds (inl e) = omega (arith, ap path_length e)
  no_longer ds (inr b) = ⊎_elim (λ l. omega arith) (λ l. omega arith) (of-before cs ds b)

  by-corners-first : (ds : List Point) → path_length ds ≡ path_length cs → NoLater ds
      → (cs ≡ ds) ⊎ (corners_before cs ds ≡ true)
  by-corners-first ds e (inl q) = inl q
  by-corners-first ds e (inr b) = ⊎_elim (λ l. absurd (omega arith)) (λ l. inr l.1) (of-before cs ds b)

  pub to-first : is_path_to f S T cs ≡ true → ((ds : List Point) → is_path_to f S T ds ≡ true → bends cs ≤ bends ds)
      → ((ds : List Point) → is_path_to f S T ds ≡ true → bends ds ≡ bends cs → NoLater ds) → IsFirst f S T cs
  to-first path fewest no-later =
      record {
        path = path;
        fewest = fewest;
        shortest = λ ds p e. no_longer ds (no-later ds p e);
        first = λ ds p e l. by-corners-first ds l (no-later ds p e);
      }

-- there is only one such list
pub unique : (f : ℕ → ℕ → Bool) (S : Point) (T : Point → Bool) (cs ds : List Point) → IsFirst f S T cs
    → IsFirst f S T ds → cs ≡ ds
unique f S T cs ds a b =
    let ab = a.fewest ds b.path in
    let ba = b.fewest cs a.path in
    let e : bends ds ≡ bends cs = omega arith in
    let as_long = a.shortest ds b.path e in
    let as_short = b.shortest cs a.path (sym e) in
    let l : path_length ds ≡ path_length cs = omega arith in
    ⊎_elim
    (λ (p : cs ≡ ds). p)
    (λ (p : corners_before cs ds ≡ true).
    ⊎_elim (λ (q : ds ≡ cs). sym q) (λ (q : corners_before ds cs ≡ true). absurd (corners-both cs ds p q))
    (b.first cs a.path (sym e) (sym l)))
    (a.first ds b.path e l)

module _ (f : ℕ → ℕ → Bool) (W H : ℕ) (inside : (x y : ℕ) → f x y ≡ true → (x < W) × (y < H)) (S : Point)
    (T : Point → Bool) where
  -- what first_path_to gives is the first way of fewest bends
  pub gives-first : (cs : List Point) → first_path_to f W H S T ≡ some cs → IsFirst f S T cs
  gives-first cs h =
      to-first f S T cs (given-path f W H S T inside cs h) (given-fewest f W H S T inside cs h)
      (given-first f W H S T inside cs h)

  -- it gives nothing only where "there is no way from S to T"
  pub gives_none : first_path_to f W H S T ≡ none → (cs : List Point) → is_path_to f S T cs ≡ true → ⊥
  gives_none = nothing-missed f W H S T inside

  -- whoever has the first way of fewest bends has what first_path_to gives
  pub first-is : (cs : List Point) → IsFirst f S T cs → first_path_to f W H S T ≡ some cs
  first-is cs a = go (first_path_to f W H S T) refl
    where
      go : (o : Option (List Point)) → first_path_to f W H S T ≡ o → o ≡ some cs
      go none e = absurd (gives_none e cs a.path)
      go (some ds) e = ap {A = List Point} {B = Option (List Point)} some (unique f S T ds cs (gives-first ds e) a)

  -- where there is no way from S to T, it gives nothing
  pub none_is : ((cs : List Point) → is_path_to f S T cs ≡ true → ⊥) → first_path_to f W H S T ≡ none
  none_is h = go (first_path_to f W H S T) refl
    where
      go : (o : Option (List Point)) → first_path_to f W H S T ≡ o → o ≡ none
      go none e = refl
      go (some ds) e = absurd (h ds (gives-first ds e).path)
