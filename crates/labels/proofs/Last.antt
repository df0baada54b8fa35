-- Laws of the last round: a crossing alone gets what a round gives it, first level and then upright.
use Prim.Native.Nat.{ℕ, ◌+◌, ◌<◌}
use native.Mathlib.Omega.{arith}
use mathlib.Core.Path.{◌≡◌, refl}
use mathlib.Core.Logic.{◌≢◌, ◌⊎◌, inl, inr}
use mathlib.Core.Bool.{Bool, true, false}
use mathlib.Core.List.{List}
use lib.ListN.{length}
use Rattle.list_laws.proofs.Tests.{clash}
use Rattle.runs.specs.Line.{along, label_top}
use Rattle.labels.specs.Pass.{zeros, OneWay, Alone, had, gets, misses}
use Rattle.labels.specs.Rounds.{Sized, Rounds, Last, Tried, reached, missed, Ended, found}
use Rattle.labels.proofs.Part.{alone-here, alone-some, alone-parts, alone-inked}
use Rattle.labels.proofs.Going.{Going}

-- the lists of each direction
pub level-way : {l u wl wu kl ku cols rows : List ℕ} {nc nr : ℕ} → Sized l u wl wu kl ku cols rows nc nr →
    OneWay l wl u wu kl cols nr nc
level-way Z = record {
  few = Z.row-lines.few;
  crossings = Z.column-lines;
  labels = Z.level;
  own-inks = Z.level-inks;
  others = Z.upright;
  other-inks = Z.upright-inks;
  links = Z.level-links;
}

pub upright-way : {l u wl wu kl ku cols rows : List ℕ} {nc nr : ℕ} → Sized l u wl wu kl ku cols rows nc nr →
    OneWay u wu l wl ku rows nc nr
upright-way Z = record {
  few = Z.column-lines.few;
  crossings = Z.row-lines;
  labels = Z.upright;
  own-inks = Z.upright-inks;
  others = Z.level;
  other-inks = Z.level-inks;
  links = Z.upright-links;
}

-- lists of the same sizes
pub sized_same : {l u wl wu l' u' wl' wu' kl ku cols rows : List ℕ} {nc nr : ℕ} →
    Sized l u wl wu kl ku cols rows nc nr → length l' ≡ length l → length u' ≡ length u → length wl' ≡ length wl →
    length wu' ≡ length wu → Sized l' u' wl' wu' kl ku cols rows nc nr
sized_same Z a b c d = record {
  column-lines = Z.column-lines;
  row-lines = Z.row-lines;
  level = omega (arith, Z.level);
  upright = omega (arith, Z.upright);
  level-inks = omega (arith, Z.level-inks);
  upright-inks = omega (arith, Z.upright-inks);
  level-links = Z.level-links;
  upright-links = Z.upright-links;
}

module _ {kl ku cols rows : List ℕ} {nc nr i j v : ℕ} {l u wl wu l' u' wl' wu' : List ℕ}
    (Z : Sized l' u' wl' wu' kl ku cols rows nc nr) (i-in : i < nc) (j-in : j < nr) where
  last_of : {a b : Bool} → Alone u wu kl cols j nc i v l l' wl wl' a → Alone l' wl' ku rows i nr j v u u' wu wu' b →
      (along l' j i ≢ 0) ⊎ (along u' i j ≢ 0) → Last kl ku cols rows nc nr i j v l u wl wu l' u' wl' wu'
  last_of A B some =
      let few = Z.column-lines.few in
      let few' = Z.row-lines.few in
      record {
        level = alone-parts i-in few A (omega (arith, Z.level));
        level-inks = alone-inked i-in few A (omega (arith, Z.level-inks));
        level-here = alone-here A (omega (arith, Z.level));
        upright = alone-parts j-in few' B (omega (arith, Z.upright));
        upright-inks = alone-inked j-in few' B (omega (arith, Z.upright-inks));
        upright-here = alone-here B (omega (arith, Z.upright));
        some = some;
      }

  -- the level label is there
  pub tried-level : {a b : Bool} → Alone u wu kl cols j nc i v l l' wl wl' a →
      Alone l' wl' ku rows i nr j v u u' wu wu' b → a ≡ true →
      Tried kl ku cols rows nc nr i j v l u wl wu l' u' wl' wu' true
  tried-level A B e = reached (last_of A B (inl (alone-some A (omega (arith, Z.level)) e)))

-- it is not: the upright one decides
pub tried-upright : {kl ku cols rows : List ℕ} {nc nr i j v : ℕ} {l u wl wu l' u' wl' wu' : List ℕ} →
    Sized l' u' wl' wu' kl ku cols rows nc nr → i < nc → j < nr → {a b : Bool} →
    Alone u wu kl cols j nc i v l l' wl wl' a → Alone l' wl' ku rows i nr j v u u' wu wu' b → a ≡ false →
    Tried kl ku cols rows nc nr i j v l u wl wu l' u' wl' wu' b
tried-upright Z i-in j-in (had x) B e = clash refl e
tried-upright Z i-in j-in (gets s z L) B e = clash refl e
tried-upright Z i-in j-in (misses z h) (misses z' h') e = missed z z'
tried-upright Z i-in j-in (misses z h) (had x) e = reached (last_of Z i-in j-in (misses z h) (had x) (inr x))
tried-upright {u = u} {wu = wu} Z i-in j-in (misses z h) (gets s z' L) e =
    reached
    (last_of Z i-in j-in (misses z h) (gets s z' L)
    (inr (alone-some {l = u} {w = wu} (gets s z' L) (omega (arith, Z.upright)) refl)))

-- it is the last round, or nothing has changed
pub tried-last : {kl ku cols rows : List ℕ} {nc nr i j v : ℕ} {l₀ u₀ wl₀ wu₀ l u wl wu l' u' wl' wu' : List ℕ}
    {b : Bool} → Tried kl ku cols rows nc nr i j v l u wl wu l' u' wl' wu' b → b ≡ true → v < label_top →
    Rounds kl ku cols rows nc nr l₀ u₀ wl₀ wu₀ v l u wl wu →
    Ended kl ku cols rows nc nr i j l₀ u₀ wl₀ wu₀ l' u' wl' wu' true
tried-last (reached E) e m r = found m r E
tried-last (missed x y) e m r = clash e refl

pub tried-on : {kl ku cols rows : List ℕ} {nc nr i j v : ℕ} {l₀ u₀ wl₀ wu₀ l u wl wu l' u' wl' wu' ml mu : List ℕ}
    {b : Bool} → Tried kl ku cols rows nc nr i j v l u wl wu l' u' wl' wu' b → b ≡ false →
    Going kl ku cols rows nc nr l₀ u₀ wl₀ wu₀ v l u wl wu ml mu →
    Going kl ku cols rows nc nr l₀ u₀ wl₀ wu₀ v l' u' wl' wu' ml mu × (along l' j i ≡ 0) × (along u' i j ≡ 0)
tried-on (reached E) e G = clash refl e
tried-on (missed x y) e G = (G, x, y)

pub tried_same : {kl ku cols rows : List ℕ} {nc nr i j v : ℕ} {l u wl wu l' u' wl' wu' : List ℕ} {b : Bool} →
    Tried kl ku cols rows nc nr i j v l u wl wu l' u' wl' wu' b → b ≡ false → zeros l' + zeros u' ≡ zeros l + zeros u
tried_same (reached E) e = clash refl e
tried_same (missed x y) e = refl
