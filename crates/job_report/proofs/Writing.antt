-- What is still to be written, part by part.
use Prim.Native.Nat.{ℕ, ◌+◌, ◌^◌, ◌≤◌, ◌<◌}
use native.Mathlib.Omega.{arith}
use mathlib.Core.Path.{◌≡◌, refl, sym, ap, ◌∙◌}
use mathlib.Core.List.{List, [], ◌++◌, append_assoc, append-nil}
use lib.ListN.{length, take, drop, length-append}
use lib.Seq.{take_at, drop_at}
use Rattle.putting.specs.Put.{Put}
use Rattle.job_report.specs.Writing.{NextOf}

-- of `all` so many bytes are written, and these are still to come
pub record Rest (all : List ℕ) (written : ℕ) (rest : List ℕ) : Type 0 where
  pub front : List ℕ
  pub size : length front ≡ written
  pub whole : front ++ rest ≡ all

pub all_rest : (all : List ℕ) → Rest all 0 all
all_rest all = record { front = []; size = refl; whole = refl }

pub none_rest : {all : List ℕ} {written : ℕ} → Rest all written [] → written ≡ length all
none_rest r = sym r.size ∙ ap length (sym (append-nil r.front) ∙ r.whole)

-- the part x comes next, and z after it
module _ {all : List ℕ} {written : ℕ} (x z : List ℕ) (n : ℕ) (sized : n ≡ length x) where
  pub next-part : Rest all written (x ++ z) → (list : List ℕ) → n ≤ length list → take n list ≡ x
      → written + n < 2 ^ 64 → NextOf all written list n
  next-part r list there is counted =
      record {
        there = there;
        bytes =
            ap (λ (l : List ℕ). take n (drop written l)) (sym r.whole)
            ∙ ap (take n) (drop_at r.front (x ++ z) written r.size)
            ∙ take_at x z n (sym sized)
            ∙ sym is;
        counted = counted;
      }

  pub after-part : Rest all written (x ++ z) → Rest all (written + n) z
  after-part r =
      record {
        front = r.front ++ x;
        size = length-append r.front x ∙ omega (arith, r.size);
        whole = append_assoc r.front x z ∙ r.whole;
      }

-- bytes at the front of a list
pub put_front : {o bytes o' : List ℕ} {n : ℕ} → Put o 0 bytes o' n → take n o' ≡ bytes
put_front {o} {bytes} {o'} {n} p =
    ap (take n) p.is ∙ take_at bytes (drop (0 + length bytes) o) n (omega (arith, p.next))
