-- The lines of the nets, one after the other: each comes next, and after the last one all are written.
use Prim.Native.Nat.{ℕ, zero, suc, ◌+◌, ◌-◌, ◌^◌, ◌≤◌, ◌<◌}
use native.Mathlib.Omega.{arith}
use native.Mathlib.Nat.{add-zero, zero-add}
use mathlib.Core.Path.{◌≡◌, refl, sym, ap, ◌∙◌, subst}
use mathlib.Core.Bool.{Bool, true, false}
use mathlib.Core.List.{List, [], ◌∷◌, ◌++◌, map, append_assoc, append-nil}
use lib.ListN.{length, replicate, length-append}
use Rattle.foil_spec.specs.Lists.{range}
use Rattle.foil_spec.specs.Limits.{max_entries, strips_size, sheet_size}
use Rattle.foil_spec.specs.Text.{ascii}
use Rattle.foil_spec.specs.Nets.{in_use}
use Rattle.foil_spec.specs.Ledger.{Room}
use Rattle.foil_spec.specs.Lent.{entry_at}
use Rattle.foil_spec.specs.Calls.{ohms}
use Rattle.foil_spec.specs.Sheet.{SheetLent, no_board, sheet_call}
use Rattle.foil_spec.specs.declared.Board.{Board}
use Rattle.foil_spec.specs.declared.Ink.{Ink}
use Rattle.lines.specs.Lines.{item, board_line, file_line}
use Rattle.putting.specs.Put.{Put}
use Rattle.putting.proofs.Putting.{put-length, put-none, each_more}
use Rattle.ohms.specs.Contract.{resistance_of}
use Rattle.ohms.specs.declared.Resistance.{Resistance}
use Rattle.sheet_laws.specs.Jobs.{only_foil0}
use Rattle.sheet_rows.specs.Rows.{sheet_lent}
use Rattle.sheet.specs.Contract.{SheetOhmsDone}
use Rattle.job_report.specs.Writing.{NextOf}
use Rattle.job_report.proofs.Writing.{Rest, next-part, put_front}
use Rattle.job_end.specs.Left.{JobLeft}
use Rattle.job_end.specs.Asked.{unused, Reached}
use Rattle.job_end.specs.declared.Ended.{Ended}
use Rattle.job_end.specs.declared.Ended.TheVariants.{ByBoard, ByFile}
use Rattle.job_end.proofs.Answering.{has_room, end_is}
use Rattle.ohms_main.specs.InkBytes.{ink_in}
use Rattle.ohms_main.specs.Printed.{used_on, ohms_on, net_line, line_on, line_of, lines_to, end_lines, ohms_output}
use Rattle.ohms_main.specs.Printed.{WrittenTo, HasBits}
use Rattle.ohms_main.proofs.Numbers.{ohms-number}

-- ---- one line that is all

module _ (all line : List ℕ) (is : all ≡ line) {o o' : List ℕ} {n : ℕ} (put : Put o 0 line o' n) where
  all-to-come : Rest all 0 (line ++ [])
  all-to-come = record { front = []; size = refl; whole = append-nil line ∙ sym is }

  pub line-next : n < 2 ^ 64 → NextOf all 0 o' n
  line-next small =
      next-part line [] n (omega (arith, put.next)) all-to-come o'
      (omega (arith, put.fits, put.next, put-length put)) (put_front put) (omega arith)

  pub line-written : (written : ℕ) → written ≡ 0 + n → written ≡ length all
  line-written written e = omega (arith, put.next, ap length is)

-- the line of a job that ended before its end mark
module _ (given bs : List ℕ) (x : Ended) (t s : List ℕ) (left : JobLeft bs unused x t s) where
  pub board-printed : (n : ℕ) → x ≡ ByBoard n → ohms_output given bs ≡ ascii "board" ++ item n ++ ascii "\n"
  unfolding ohms_output end_lines board_line
  board-printed n e = ap (end_lines (lines_to given bs 999)) (end_is bs x t s left ∙ e)

  pub file-printed : (n : ℕ) → x ≡ ByFile n → ohms_output given bs ≡ ascii "file" ++ item n ++ ascii "\n"
  unfolding ohms_output end_lines file_line
  file-printed n e = ap (end_lines (lines_to given bs 999)) (end_is bs x t s left ∙ e)

-- ---- the line of a net on foil 0 of a sheet

module _ (b : Board) (t s : List ℕ) (i : Ink) (net : ℕ) where
  pub ohms-are : (bs₀ : List Board) → bs₀ ≡ b ∷ replicate 7 no_board → length t ≡ sheet_size → length s ≡ strips_size
      → (r : Resistance) → SheetOhmsDone 0 net i (sheet_lent bs₀ t s) r → r ≡ ohms_on i (only_foil0 b t s) net
  unfolding ohms_on
  ohms-are bs₀ is e f r done =
      let on = subst (λ (x : List Board). SheetOhmsDone 0 net i (sheet_lent x t s) r) is done in
      on.answer
      ∙ ap (λ (x : Room). resistance_of (sheet_call x 0 (ohms net i) (only_foil0 b t s)).answer)
      (has_room b t s 0 0 e f refl)

  pub has-bits : (r : Resistance) → r ≡ ohms_on i (only_foil0 b t s) net → HasBits r
  unfolding ohms_on
  has-bits r is x e = ohms-number _ net i _ x (sym is ∙ e)

  module _ (u : Bool) (found : u ≡ in_use net (map (entry_at t) (range 0 max_entries))) where
    used-is : used_on (only_foil0 b t s) net ≡ u
    unfolding used_on
    used-is = sym found

    pub not_there : u ≡ false → (o : List ℕ) → Put o 0 (line_on i (only_foil0 b t s) net) o 0
    unfolding line_on
    not_there h o = rw (used-is ∙ h) (put-none o 0 (omega arith))

    pub is_there : u ≡ true → (r : Resistance) → r ≡ ohms_on i (only_foil0 b t s) net → {o o' : List ℕ} → {n : ℕ}
        → Put o 0 (net_line net r) o' n → Put o 0 (line_on i (only_foil0 b t s) net) o' n
    unfolding line_on
    is_there h r is put = rw (used-is ∙ h) (rw is at put)

-- ---- the lines of the nets

module _ (given bs : List ℕ) where
  abbrev line : ℕ → List ℕ
  line net = line_of (ink_in given) bs net

  more-lines : (k : ℕ) → lines_to given bs (k + 1) ≡ lines_to given bs k ++ line (k + 1)
  unfolding lines_to
  more-lines k =
      each_more (line_of (ink_in given) bs) (λ (j : ℕ). j + 1) 0 k
      ∙ ap (λ (j : ℕ). lines_to given bs k ++ line_of (ink_in given) bs (j + 1)) (zero-add k)

  -- those after the first k
  lines_after : (k d : ℕ) → (rest : List ℕ) × (lines_to given bs (k + d) ≡ lines_to given bs k ++ rest)
  lines_after k zero = ([], ap (lines_to given bs) (add-zero k) ∙ sym (append-nil (lines_to given bs k)))
  lines_after k (suc d) =
      let r = lines_after k d in
      let e : k + suc d ≡ k + d + 1 = omega arith in (
        r.0 ++ line (k + d + 1),
        ap (lines_to given bs) e ∙ more-lines (k + d) ∙ ap (λ (l : List ℕ). l ++ line (k + d + 1)) r.1
            ∙ append_assoc (lines_to given bs k) r.0 (line (k + d + 1)),
      )

  none-lines : 0 ≡ length (lines_to given bs 0)
  unfolding lines_to
  none-lines = refl

  pub none_written : WrittenTo given bs 0 0
  none_written = record { count = none-lines; few = omega arith }

-- at the end mark
module _ (given bs : List ℕ) (b : Board) (t s : List ℕ) (here : Reached bs b t s) where
  all_lines : ohms_output given bs ≡ lines_to given bs 999
  unfolding ohms_output end_lines
  all_lines = ap (end_lines (lines_to given bs 999)) here.ended

  pub all-written : (written k : ℕ) → WrittenTo given bs written k → k ≤ 999 → 999 ≤ k
      → written ≡ length (ohms_output given bs)
  all-written written k to most least =
      let same : k ≡ 999 = omega arith in
      to.count ∙ ap (λ (j : ℕ). length (lines_to given bs j)) same ∙ ap length (sym all_lines)

  line-is : (net : ℕ) → line_of (ink_in given) bs net ≡ line_on (ink_in given) (only_foil0 b t s) net
  unfolding line_of
  line-is net = ap (λ (x : SheetLent). line_on (ink_in given) x net) (sym here.left)

  -- net k + 1
  module _ (k written : ℕ) (to : WrittenTo given bs written k) (i : Ink) (ink : i ≡ ink_in given)
      {o o' : List ℕ} {n : ℕ} (put : Put o 0 (line_on i (only_foil0 b t s) (k + 1)) o' n) (short : n ≤ 64) where
    abbrev next-line : List ℕ
    next-line = line_on i (only_foil0 b t s) (k + 1)

    with-line : lines_to given bs (k + 1) ≡ lines_to given bs k ++ next-line
    with-line =
        more-lines given bs k
        ∙ ap (λ (l : List ℕ). lines_to given bs k ++ l)
        (line-is (k + 1) ∙ ap (λ (j : Ink). line_on j (only_foil0 b t s) (k + 1)) (sym ink))

    pub net-next : k < 999 → NextOf (ohms_output given bs) written o' n
    net-next below =
        let after = lines_after given bs (k + 1) (999 - (k + 1)) in
        let e : k + 1 + (999 - (k + 1)) ≡ 999 = omega arith in
        let whole : lines_to given bs k ++ (next-line ++ after.0) ≡ ohms_output given bs =
        sym (append_assoc (lines_to given bs k) next-line after.0) ∙ ap (λ (l : List ℕ). l ++ after.0) (sym with-line)
        ∙ sym after.1 ∙ ap (lines_to given bs) e ∙ sym all_lines in
        next-part next-line after.0 n (omega (arith, put.next))
        (record { front = lines_to given bs k; size = sym to.count; whole = whole }) o'
        (omega (arith, put.fits, put.next, put-length put)) (put_front put) (omega (arith, to.few))

    pub net-written : (written' : ℕ) → written' ≡ written + n → WrittenTo given bs written' (k + 1)
    net-written written' e =
        record {
          count =
              omega (
                arith,
                to.count,
                put.next,
                ap length with-line,
                length-append (lines_to given bs k) next-line,
              );
          few = omega (arith, to.few);
        }
