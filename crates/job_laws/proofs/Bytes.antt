-- The lines read off the bytes again. A line found in the output is the end of one of the program's lines; of these
-- only a strip's can end in a number that no refusal has, and its word is another.
use Prim.Native.Nat.{ℕ, suc, ◌+◌}
use native.Mathlib.Omega.{arith}
use mathlib.Core.Path.{◌≡◌, refl, sym, ap, ap₂, ◌∙◌, subst}
use mathlib.Core.Bool.{Bool, true, false}
use mathlib.Core.List.{List, [], ◌∷◌, ◌++◌, append_assoc, append-nil, head-eq_of_cons-eq, tail-eq_of_cons-eq}
use mathlib.Core.Logic.{◌⊎◌, inl, inr, ⊎_elim}
use lib.Dec.{leb, eqb}
use lib.ListN.{length, length-append}
use lib.Seq.{append_snoc}
use borrow.Author.Tests.{eq-eqb, ne_eqb, lt-leb}
use Rattle.foil_spec.specs.Lists.{any, each}
use Rattle.foil_spec.specs.Foil.{Point}
use Rattle.foil_spec.specs.Strips.{Strip}
use Rattle.list_laws.proofs.Tests.{clash, or_l, or_r, any_append}
use Rattle.list_laws.proofs.Members.{In, in_right, in-any, of-all, not-any}
use Rattle.ledger_laws.specs.Numbers.{among}
use Rattle.foil_spec.specs.Text.{ascii, decimal}
use Rattle.lines.specs.Lines.{item, corner_item, board_line, patch_line, track_refused, track_laid, lift_line, leg_line}
use Rattle.lines.specs.Lines.{strip_line, file_line}
use Rattle.lines.specs.Output.{output}
use Rattle.job_laws.specs.JobLines.{PrintedLine, board, patch, refused_track, laid_track, lifted, leg, strip, file}
use Rattle.job_laws.specs.JobLines.{bytes_of, possible, Nowhere, NeverWrites}
use Rattle.job_laws.proofs.Lines.{writes-lines}
use Rattle.job_laws.proofs.Digits.{without, decimal-same}

-- ---- kinds of bytes: a line feed, a blank, a comma, a letter

feed : ℕ → Bool
feed b = eqb 10 b

blank : ℕ → Bool
blank b = eqb 32 b

comma : ℕ → Bool
comma b = eqb 44 b

letter : ℕ → Bool
letter b = leb 97 b

-- a number has none of them
no-feed : (n : ℕ) → any feed (decimal n) ≡ false
unfolding feed
no-feed = without feed (λ b lo hi. ne_eqb 10 b (λ e. omega arith))

no-blank : (n : ℕ) → any blank (decimal n) ≡ false
unfolding blank
no-blank = without blank (λ b lo hi. ne_eqb 32 b (λ e. omega arith))

no-comma : (n : ℕ) → any comma (decimal n) ≡ false
unfolding comma
no-comma = without comma (λ b lo hi. ne_eqb 44 b (λ e. omega arith))

no-letter : (n : ℕ) → any letter (decimal n) ≡ false
unfolding letter
no-letter = without letter (λ b lo hi. lt-leb 97 b (omega arith))

-- the last byte of a kind, and what follows it
last_one : (p : ℕ → Bool) (u v ds es : List ℕ) (c d : ℕ) → p c ≡ true → p d ≡ true → any p ds ≡ false
    → any p es ≡ false → u ++ c ∷ ds ≡ v ++ d ∷ es → (c ≡ d) × (ds ≡ es)
last_one p [] [] ds es c d hc hd nc nd e = (head-eq_of_cons-eq e, tail-eq_of_cons-eq e)
last_one p [] (b ∷ v) ds es c d hc hd nc nd e =
    clash (in-any p d (v ++ d ∷ es) (in_right d v (d ∷ es) (inl refl)) hd)
    (subst (λ (l : List ℕ). any p l ≡ false) (tail-eq_of_cons-eq e) nc)
last_one p (b ∷ u) [] ds es c d hc hd nc nd e =
    clash (in-any p c (u ++ c ∷ ds) (in_right c u (c ∷ ds) (inl refl)) hc)
    (subst (λ (l : List ℕ). any p l ≡ false) (sym (tail-eq_of_cons-eq e)) nd)
last_one p (a ∷ u) (b ∷ v) ds es c d hc hd nc nd e = last_one p u v ds es c d hc hd nc nd (tail-eq_of_cons-eq e)

-- ---- lines

-- a line without its line feed
text_of : PrintedLine → List ℕ
text_of (board n) = ascii "board" ++ item n
text_of (patch n) = ascii "patch" ++ item n
text_of (refused_track net n) = ascii "track" ++ item net ++ item n
text_of (laid_track net n cs) = ascii "track" ++ item net ++ item 0 ++ item n ++ each corner_item cs
text_of (lifted net n) = ascii "lift" ++ item net ++ item n
text_of (leg net n) = ascii "leg" ++ item net ++ item n
text_of (strip s) = ascii "strip" ++ item s.x0 ++ item s.y0 ++ item s.x1 ++ item s.y1
text_of (file n) = ascii "file" ++ item n

text-is : (l : PrintedLine) → bytes_of l ≡ text_of l ++ (10 ∷ [])
unfolding bytes_of text_of board_line patch_line track_refused track_laid lift_line leg_line strip_line file_line
text-is (board n) = refl
text-is (patch n) = refl
text-is (refused_track net n) = refl
text-is (laid_track net n cs) = refl
text-is (lifted net n) = refl
text-is (leg net n) = refl
text-is (strip s) = refl
text-is (file n) = refl

corners-whole : (cs : List Point) → any feed (each corner_item cs) ≡ false
unfolding corner_item item feed
corners-whole [] = refl
corners-whole (p ∷ cs) = simp (any_append, no-feed p.x, no-feed p.y, corners-whole cs)

text-whole : (l : PrintedLine) → any feed (text_of l) ≡ false
unfolding text_of item feed
text-whole (board n) = simp no-feed
text-whole (patch n) = simp no-feed
text-whole (refused_track net n) = simp (any_append, no-feed)
text-whole (laid_track net n cs) = simp (any_append, no-feed, corners-whole)
text-whole (lifted net n) = simp (any_append, no-feed)
text-whole (leg net n) = simp (any_append, no-feed)
text-whole (strip s) = simp (any_append, no-feed)
text-whole (file n) = simp no-feed

-- the text before the first line feed
first-line : (x y r s : List ℕ) → any feed x ≡ false → any feed y ≡ false → x ++ 10 ∷ r ≡ y ++ 10 ∷ s → x ≡ y
unfolding feed
first-line [] [] r s hx hy e = refl
first-line [] (c ∷ y) r s hx hy e =
    clash (eq-eqb 10 c (head-eq_of_cons-eq e)) (or_l (feed c) (any feed y) hy)
first-line (b ∷ x) [] r s hx hy e =
    clash (eq-eqb 10 b (sym (head-eq_of_cons-eq e))) (or_l (feed b) (any feed x) hx)
first-line (b ∷ x) (c ∷ y) r s hx hy e =
    ap₂ {A = ℕ} {B = List ℕ} {C = List ℕ} (λ a l. a ∷ l) (head-eq_of_cons-eq e)
    (first-line x y r s (or_r (feed b) (any feed x) hx) (or_r (feed c) (any feed y) hy) (tail-eq_of_cons-eq e))

-- a line that is found in the bytes of a line x and what follows: x ends in it, or it is found in what follows
here-or-later : (before x y r after : List ℕ) → any feed x ≡ false → any feed y ≡ false
    → x ++ 10 ∷ r ≡ before ++ (y ++ 10 ∷ after)
    → (x ≡ before ++ y) ⊎ ((b : List ℕ) × (r ≡ b ++ (y ++ 10 ∷ after)))
here-or-later [] x y r after hx hy e = inl (first-line x y r after hx hy e)
here-or-later (b ∷ before) [] y r after hx hy e = inr (before, tail-eq_of_cons-eq e)
here-or-later (b ∷ before) (a ∷ x) y r after hx hy e =
    ⊎_elim
    (λ (k : x ≡ before ++ y). inl (ap₂ {A = ℕ} {B = List ℕ} {C = List ℕ} (λ a l. a ∷ l) (head-eq_of_cons-eq e) k))
    (λ (k : (b : List ℕ) × (r ≡ b ++ (y ++ 10 ∷ after))). inr k)
    (here-or-later before x y r after (or_r (feed a) (any feed x) hx) hy (tail-eq_of_cons-eq e))

not-empty : (before y after : List ℕ) → ◌≡◌ {A = List ℕ} [] (before ++ (y ++ 10 ∷ after)) → ⊥
not-empty before y after e =
    let n : length (before ++ (y ++ 10 ∷ after)) ≡ length before + (length y + suc (length after)) =
    simp length-append in
    omega (arith, ap length e)

-- a line that is found in the bytes of some lines is the end of one of them
found-line : (ls : List PrintedLine) (before y after : List ℕ) → any feed y ≡ false
    → each bytes_of ls ≡ before ++ (y ++ 10 ∷ after)
    → (l : PrintedLine) × In l ls × (b : List ℕ) × (text_of l ≡ b ++ y)
found-line [] before y after hy e = absurd (not-empty before y after e)
found-line (l ∷ ls) before y after hy e =
    let first : text_of l ++ 10 ∷ each bytes_of ls ≡ before ++ (y ++ 10 ∷ after) =
    sym (append_snoc (text_of l) 10 (each bytes_of ls))
    ∙ ap (λ (x : List ℕ). x ++ each bytes_of ls) (sym (text-is l)) ∙ e in
    ⊎_elim
    (λ (k : text_of l ≡ before ++ y). (l, inl refl, before, k))
    (λ (k : (b : List ℕ) × (each bytes_of ls ≡ b ++ (y ++ 10 ∷ after))).
    let r = found-line ls k.0 y after hy k.1 in
    (r.0, inr r.1, r.2, r.3))
    (here-or-later before (text_of l) y (each bytes_of ls) after (text-whole l) hy first)

-- ---- how lines end

-- text ends in one item at most
same_item : (u v : List ℕ) (k n : ℕ) → u ++ item k ≡ v ++ item n → k ≡ n
unfolding item blank
same_item u v k n e =
    decimal-same k n (last_one blank u v (decimal k) (decimal n) 32 32 refl refl (no-blank k) (no-blank n) e).1

-- text that ends in corners ends in no item
corner-end : (cs : List Point) (u v : List ℕ) (p : Point) (n : ℕ) → u ++ each corner_item (p ∷ cs) ≡ v ++ item n → ⊥
unfolding corner_item item blank comma
corner-end [] u v p n e =
    let xy : List ℕ = decimal p.x ++ (44 ∷ decimal p.y) in
    let free : any blank xy ≡ false = simp (any_append, no-blank) in
    let parted : any comma xy ≡ true = simp (any_append, no-comma) in
    let written : corner_item p ++ [] ≡ 32 ∷ xy =
    append-nil (corner_item p) ∙ append_snoc (item p.x) 44 (decimal p.y) in
    let alike : xy ≡ decimal n =
    (last_one blank u v xy (decimal n) 32 32 refl refl free (no-blank n)
    (ap (λ (l : List ℕ). u ++ l) (sym written) ∙ e)).1 in
    clash parted (ap (any comma) alike ∙ no-comma n)
corner-end (q ∷ cs) u v p n e =
    corner-end cs (u ++ corner_item p) v q n (append_assoc u (corner_item p) (each corner_item (q ∷ cs)) ∙ e)

-- the lines of a refusal by n
with_number : ℕ → ℕ → List PrintedLine
with_number net n = board n ∷ patch n ∷ refused_track net n ∷ lifted net n ∷ leg net n ∷ file n ∷ []

module _ (n : ℕ) (none_has : (net : ℕ) → any possible (with_number net n) ≡ false) where
  other-number : (net : ℕ) (f : ℕ → PrintedLine) → In (f n) (with_number net n) → (u v : List ℕ) (k : ℕ)
      → possible (f k) ≡ true → u ++ item k ≡ v ++ item n → ⊥
  other-number net f i u v k h e =
      clash (subst (λ (j : ℕ). possible (f j) ≡ true) (same_item u v k n e) h)
      (not-any possible (f n) (with_number net n) (none_has net) i)

  -- only a strip's line ends in n
  only-strip : (l : PrintedLine) → possible l ≡ true → (v : List ℕ) → text_of l ≡ v ++ item n
      → (s : Strip) × (l ≡ strip s)
  unfolding text_of with_number possible
  only-strip (board k) h v e = absurd (other-number 0 board (inl refl) (ascii "board") v k h e)
  only-strip (patch k) h v e = absurd (other-number 0 patch (inr (inl refl)) (ascii "patch") v k h e)
  only-strip (refused_track net k) h v e =
      absurd (other-number net (refused_track net) (inr (inr (inl refl))) (ascii "track" ++ item net) v k h e)
  only-strip (laid_track net k []) h v e = clash h refl
  only-strip (laid_track net k (p ∷ cs)) h v e =
      absurd (corner-end cs (ascii "track" ++ item net ++ item 0 ++ item k) v p n e)
  only-strip (lifted net k) h v e =
      absurd (other-number net (lifted net) (inr (inr (inr (inl refl)))) (ascii "lift" ++ item net) v k h e)
  only-strip (leg net k) h v e =
      absurd (other-number net (leg net) (inr (inr (inr (inr (inl refl))))) (ascii "leg" ++ item net) v k h e)
  only-strip (strip s) h v e = (s, refl)
  only-strip (file k) h v e =
      absurd (other-number 0 file (inr (inr (inr (inr (inr (inl refl)))))) (ascii "file") v k h e)

  -- a line that ends in n, after a word whose last letter is c
  module _ (word : List ℕ) (c : ℕ) (net : List ℕ) (is-letter : letter c ≡ true) (other : eqb 112 c ≡ false)
      (no-letters : any letter net ≡ false) (whole : any feed (word ++ c ∷ net) ≡ false) where
    abbrev line : List ℕ
    line = word ++ c ∷ net ++ item n

    -- it is not the end of a strip's line
    not-strip : (s : Strip) (b : List ℕ) → text_of (strip s) ≡ b ++ line → ⊥
    unfolding text_of item letter
    not-strip s b e =
        let rest : List ℕ = item s.x0 ++ item s.y0 ++ item s.x1 ++ item s.y1 in
        let words : b ++ line ≡ b ++ word ++ c ∷ (net ++ item n) =
        ap (λ (l : List ℕ). b ++ l) (append_assoc word (c ∷ net) (item n))
        ∙ sym (append_assoc b word (c ∷ (net ++ item n))) in
        let alike =
        last_one letter (ascii "stri") (b ++ word) rest (net ++ item n) 112 c refl is-letter
        (simp (any_append, no-letter)) (any_append letter net (item n) ∙ rw (no-letters, no-letter n) refl)
        (e ∙ words) in
        clash (eq-eqb 112 c alike.0) other

    -- nor of any other
    not_end : (l : PrintedLine) → possible l ≡ true → (b : List ℕ) → text_of l ≡ b ++ line → ⊥
    not_end l h b e =
        let s = only-strip l h (b ++ (word ++ c ∷ net)) (e ∙ sym (append_assoc b (word ++ c ∷ net) (item n))) in
        not-strip s.0 b (sym (ap text_of s.1) ∙ e)

    nowhere : (bs : List ℕ) → Nowhere (line ++ ascii "\n") (output bs)
    unfolding item feed
    nowhere bs before after e =
        let o = writes-lines bs in
        let there : each bytes_of o.lines ≡ before ++ (line ++ 10 ∷ after) =
        sym o.are ∙ e ∙ append_assoc before (line ++ ascii "\n") after
        ∙ ap (λ (l : List ℕ). before ++ l) (append_snoc line 10 after) in
        let f =
        found-line o.lines before line after
        (any_append feed (word ++ c ∷ net) (item n) ∙ rw (whole, no-feed n) refl) there in
        not_end f.0 (of-all possible f.0 o.lines o.fine f.1) f.2 f.3

  never : NeverWrites n
  unfolding board_line patch_line track_refused lift_line leg_line file_line item feed letter
  never bs net = (
    nowhere (ascii "boar") 100 [] refl refl refl refl bs,
    nowhere (ascii "patc") 104 [] refl refl refl refl bs,
    nowhere (ascii "trac") 107 (item net) refl refl (no-letter net) (no-feed net) bs,
    nowhere (ascii "lif") 116 (item net) refl refl (no-letter net) (no-feed net) bs,
    nowhere (ascii "le") 103 (item net) refl refl (no-letter net) (no-feed net) bs,
    nowhere (ascii "fil") 101 [] refl refl refl refl bs,
  )

pub never-12 : NeverWrites 12
unfolding with_number possible among
never-12 = never 12 (λ net. refl)

pub never-13 : NeverWrites 13
unfolding with_number possible among
never-13 = never 13 (λ net. refl)
