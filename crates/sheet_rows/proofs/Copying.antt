-- Rows that are put into the middle of a table, what stands behind them moved, and zeros after all.
use Prim.Native.Nat.{ℕ, ◌+◌, ◌-◌, ◌≤◌}
use native.Mathlib.Omega.{arith}
use mathlib.Core.Path.{◌≡◌, sym, ap, ap₂, ◌∙◌}
use mathlib.Core.List.{List, ◌++◌, append_assoc}
use lib.ListN.{length, take, drop, replicate, length-drop, length-append}
use lib.Seq.{paste, take_at, drop_at, drop-drop, take-take, take-append-le, length-take-le}
use Rattle.foil_spec.specs.Limits.{sheet_size}
use Rattle.foil_spec.specs.Lent.{written}

module _ (t rows : List ℕ) (start rest end : ℕ) (room : start + length rows + (end - rest) ≤ sheet_size)
    (order : rest ≤ end) (last : end ≤ sheet_size) (long : sheet_size ≤ length t) where
  abbrev mid : ℕ
  mid = start + length rows

  abbrev stop : ℕ
  stop = mid + (end - rest)

  abbrev back : List ℕ
  back = take (end - rest) (drop rest t)

  abbrev front : List ℕ
  front = take start t ++ (rows ++ back)

  length-back : length back ≡ end - rest
  length-back = length-take-le (end - rest) (drop rest t) (omega (arith, length-drop rest t))

  length-front : length front ≡ stop
  length-front =
      omega (
        arith,
        length-append (take start t) (rows ++ back),
        length-append rows back,
        length-take-le start t (omega arith),
        length-back,
      )

  -- what stands behind is moved, and the rows are put before it
  module _ (a : List ℕ) (p : a ≡ paste t mid (drop rest t) (end - rest)) where
    moved : a ≡ take mid t ++ (back ++ drop stop t)
    moved = p ∙ append_assoc (take mid t) back (drop stop t)

    before-rows : take start a ≡ take start t
    before-rows =
        let l : length (take mid t) ≡ mid = length-take-le mid t (omega arith) in
        ap (take start) moved ∙ take-append-le start (take mid t) (back ++ drop stop t) (omega arith)
        ∙ take-take start mid t (omega arith)

    after-rows : drop (mid - start) (drop start a) ≡ back ++ drop stop t
    after-rows =
        let e : start + (mid - start) ≡ mid = omega arith in
        drop-drop (mid - start) start a ∙ ap (λ (k : ℕ). drop k a) e ∙ ap (drop mid) moved
        ∙ drop_at (take mid t) (back ++ drop stop t) mid (length-take-le mid t (omega arith))

    module _ (x : List ℕ) (q : x ≡ rows) where
      abbrev b : List ℕ
      b = take start a ++ (x ++ drop (mid - start) (drop start a))

      in_front : b ≡ front ++ drop stop t
      in_front =
          ap (λ (y : List ℕ). take start a ++ (y ++ drop (mid - start) (drop start a))) q
          ∙ ap₂ (λ (y z : List ℕ). y ++ (rows ++ z)) before-rows after-rows
          ∙ ap (λ (y : List ℕ). take start t ++ y) (sym (append_assoc rows back (drop stop t)))
          ∙ sym (append_assoc (take start t) (rows ++ back) (drop stop t))

      rest-is : drop stop b ≡ drop stop t
      rest-is = ap (drop stop) in_front ∙ drop_at front (drop stop t) stop length-front

      -- zeros follow
      pub replaced-in : (zs : List ℕ) → zs ≡ replicate (length (take (sheet_size - stop) (drop stop b))) 0
          → take stop b ++ (zs ++ drop (sheet_size - stop) (drop stop b)) ≡ written sheet_size front t
      unfolding written
      replaced-in zs e =
          let n : length (take (sheet_size - stop) (drop stop b)) ≡ sheet_size - length front =
          omega (
            arith,
            length-front,
            ap (λ (y : List ℕ). length (take (sheet_size - stop) y)) rest-is
                ∙ length-take-le (sheet_size - stop) (drop stop t) (omega (arith, length-drop stop t)),
          ) in
          let k : stop + (sheet_size - stop) ≡ sheet_size = omega arith in
          let f : take stop b ≡ front = ap (take stop) in_front ∙ take_at front (drop stop t) stop length-front in
          let z : drop (sheet_size - stop) (drop stop b) ≡ drop sheet_size t =
          ap (drop (sheet_size - stop)) rest-is ∙ drop-drop (sheet_size - stop) stop t ∙ ap (λ (i : ℕ). drop i t) k in
          ap₂ (λ (y w : List ℕ). y ++ (zs ++ w)) f z
          ∙ ap (λ (y : List ℕ). front ++ (y ++ drop sheet_size t)) (e ∙ ap (λ (m : ℕ). replicate m 0) n)
