-- A line of the slip, column by column.
use Prim.Native.Nat.{ℕ, ◌+◌, ◌-◌, ◌≤◌, ◌<◌}
use native.Mathlib.Omega.{arith}
use mathlib.Core.Path.{◌≡◌, refl, sym, ap, ◌∙◌, subst}
use mathlib.Core.List.{List, [], ◌++◌, append_assoc, append-nil}
use lib.ListN.{length, get_or, replicate, length-append, length-replicate, get_or-replicate, get_or-append}
use lib.Seq.{get_or-append-add}
use Rattle.foil_spec.specs.Text.{ascii, decimal}
use Rattle.foil_spec.specs.Slip.{set_right, column}
use Rattle.slip_laws.specs.Page.{character, Spaces, Stands}

pub right-long : (k n : ℕ) → length (decimal n) ≤ k → length (set_right k n) ≡ k
unfolding set_right
right-long k n l = simp (length-append, length-replicate) (omega arith)

-- the characters after some
pub past : (p q : List ℕ) (c i : ℕ) → c ≡ length p + 1 + i → character (p ++ q) c ≡ get_or q i 0
unfolding character
past p q c i e =
    let s : c - 1 ≡ length p + i = omega arith in
    ap (λ (k : ℕ). get_or (p ++ q) k 0) s ∙ get_or-append-add p q i 0

pub blank-at : (p q : List ℕ) (j a b : ℕ) → length p + 1 ≡ a → b < a + j → Spaces (p ++ (replicate j 32 ++ q)) a b
blank-at p q j a b e l =
    record {
      blank = λ k low high.
          let long = length-replicate {A = ℕ} j 32 in
          past p (replicate j 32 ++ q) k (k - a) (omega arith)
          ∙ get_or-append (replicate j 32) q 0 (k - a) (omega arith)
          ∙ get_or-replicate j (k - a) 32 0 (omega arith);
    }

stands_at : (p q : List ℕ) (k n a b : ℕ) → length (decimal n) ≤ k → length p + 1 ≡ a → a + k ≡ b + 1
    → Stands (p ++ (set_right k n ++ q)) a b n
unfolding set_right
stands_at p q k n a b fit from to =
    let free : ℕ = k - length (decimal n) in
    let blanks = length-replicate {A = ℕ} free 32 in
    let whole = right-long k n fit in
    record {
      fits = omega arith;
      digits = λ i l.
          past p (set_right k n ++ q) (b + 1 - length (decimal n) + i) (free + i) (omega arith)
          ∙ get_or-append (set_right k n) q 0 (free + i) (omega arith)
          ∙ ap (λ (j : ℕ). get_or (set_right k n) (j + i) 0) (sym blanks)
          ∙ get_or-append-add (replicate free 32) (decimal n) i 0;
      before =
          rw (append_assoc (replicate free 32) (decimal n) q)
          (blank-at p (decimal n ++ q) free a (b - length (decimal n)) from (omega arith));
    }

-- what stands in a line still stands there with more after it
more : (q r : List ℕ) (k : ℕ) → 1 ≤ k → k ≤ length q → character (q ++ r) k ≡ character q k
unfolding character
more q r k low high = get_or-append q r 0 (k - 1) (omega arith)

blank-more : (q r : List ℕ) (a b : ℕ) → 1 ≤ a → b ≤ length q → Spaces q a b → Spaces (q ++ r) a b
blank-more q r a b low high s =
    record { blank = λ k from to. more q r k (omega arith) (omega arith) ∙ s.blank k from to }

pub stands-more : (q r : List ℕ) (a b n : ℕ) → 1 ≤ a → b ≤ length q → Stands q a b n → Stands (q ++ r) a b n
stands-more q r a b n low high s =
    let fit = s.fits in
    record {
      fits = fit;
      digits = λ i l. more q r (b + 1 - length (decimal n) + i) (omega arith) (omega arith) ∙ s.digits i l;
      before = blank-more q r a (b - length (decimal n)) low (omega arith) s.before;
    }

-- after column j two columns are blank, and the number stands in the k columns after them
pub record Item (line : List ℕ) (j k n : ℕ) : Type 0 where
  pub gap : Spaces line (j + 1) (j + 2)
  pub stands : Stands line (j + 3) (j + 2 + k) n

module _ (q : List ℕ) (j k n : ℕ) where
  pub item-long : length q ≡ j → length (decimal n) ≤ k → length (q ++ column k n) ≡ j + 2 + k
  unfolding column
  item-long e fit = omega (arith, length-append q (column k n), right-long k n fit)

  pub item-at : length q ≡ j → length (decimal n) ≤ k → Item (q ++ column k n) j k n
  unfolding column
  item-at e fit =
      record {
        gap = blank-at q (set_right k n) 2 (j + 1) (j + 2) (omega arith) (omega arith);
        stands =
            subst (λ (l : List ℕ). Stands l (j + 3) (j + 2 + k) n)
            (append_assoc q (ascii "  ") (set_right k n ++ [])
            ∙ ap (λ (l : List ℕ). q ++ (ascii "  " ++ l)) (append-nil (set_right k n)))
            (stands_at (q ++ ascii "  ") [] k n (j + 3) (j + 2 + k) fit
            (omega (arith, length-append q (ascii "  "))) (omega arith));
      }

  pub item-more : (r : List ℕ) → j + 2 + k ≤ length q → Item q j k n → Item (q ++ r) j k n
  item-more r l i =
      record {
        gap = blank-more q r (j + 1) (j + 2) (omega arith) (omega arith) i.gap;
        stands = stands-more q r (j + 3) (j + 2 + k) n (omega arith) l i.stands;
      }

pub net-at : (k n : ℕ) → length (decimal n) ≤ k → Stands (set_right k n) 1 k n
net-at k n fit =
    subst (λ (l : List ℕ). Stands l 1 k n) (append-nil (set_right k n))
    (stands_at [] [] k n 1 k fit refl (omega arith))
