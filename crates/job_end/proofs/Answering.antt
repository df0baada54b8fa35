-- The answer to a question to the foil that a job leaves is written whole, and nothing else.
use Prim.Native.Nat.{ℕ, ◌^◌, ◌≤◌, ◌<◌}
use native.Mathlib.Omega.{arith}
use mathlib.Core.Path.{◌≡◌, refl, sym, ap, ◌∙◌, subst}
use mathlib.Core.List.{List, ◌∷◌, ◌++◌}
use mathlib.Core.Option.{Option, none, some}
use lib.IntN.{ℤ, pos}
use lib.ListN.{length, take, drop, replicate, length-append}
use lib.Seq.{length-take-le, take_all, take-append_seam}
use Rattle.std.proofs.Common.{w32, FitsSigned, to_z, of_z}
use Rattle.std.proofs.Math.Facts.{to_z-of_z, sfits_lit}
use Rattle.std.proofs.lemmas.List.{take-append-le}
use Rattle.foil_spec.specs.Limits.{strips_size, sheet_size}
use Rattle.foil_spec.specs.Text.{ascii}
use Rattle.foil_spec.specs.Foil.{Layout}
use Rattle.foil_spec.specs.Ledger.{Room, with_output, says, After, settle}
use Rattle.foil_spec.specs.Ledger.{Answer as Outcome, refused, wrote}
use Rattle.foil_spec.specs.Lent.{held, over_front, output_after}
use Rattle.foil_spec.specs.Saving.{job_of}
use Rattle.foil_spec.specs.Slip.{slip_of}
use Rattle.foil_spec.specs.Job.{job_room}
use Rattle.foil_spec.specs.Calls.{step, RecordReply, refused_whole, ran_steps, end_mark, Reply, answered, reply, output_by}
use Rattle.foil_spec.specs.Sheet.{SheetLent, no_board, counts, view, sheet_room, sheet_step, unless, sheet_call}
use Rattle.foil_spec.specs.declared.Board.{Board}
use Rattle.std.specs.Prelude.{Ok, Err}
use Rattle.foil.specs.Contract.{Answer, answer_of}
use Rattle.foil.specs.declared.Accepted.{Accepted}
use Rattle.foil.specs.declared.Accepted.TheVariants.{Wrote}
use Rattle.lines.specs.Lines.{item, board_line, file_line}
use Rattle.putting.specs.Put.{Put}
use Rattle.putting.proofs.Putting.{put-length}
use Rattle.sheet_laws.specs.Jobs.{only_foil0}
use Rattle.sheet_laws.proofs.Jobs.{all-to-one}
use Rattle.sheet_rows.specs.Rows.{sheet_lent}
use Rattle.sheet.specs.Contract.{on_sheet, Tells, SheetReadDone}
use Rattle.job_report.specs.Writing.{NextOf}
use Rattle.job_report.proofs.Writing.{put_front}
use Rattle.job_end.specs.Left.{ended_of, job_end, board_left, JobLeft}
use Rattle.job_end.specs.Asked.{unused, end_of, Said, to_output, to_error, step_of, word_of}
use Rattle.job_end.specs.Asked.{bytes_of, asked_on, asked_of}
use Rattle.job_end.specs.Asked.{answer_said, reply_said, foil_said, end_said, said_of, Reached, Holds}
use Rattle.job_end.specs.declared.Ended.{Ended}
use Rattle.job_end.specs.declared.Ended.TheVariants.{AtMark, ByBoard, ByFile}
use Rattle.job_end.specs.declared.asking.Question.{Question}
use Rattle.job_end.specs.declared.asking.Question.TheVariants.{Save, Slip}

-- ---- bytes that are all

pub all-written : (list : List ℕ) (fd : ℤ) (n : ℕ) (x : Said) → Holds list fd n x → n ≡ length x.bytes
all-written list fd n x h = sym (length-take-le n list h.there) ∙ ap length h.bytes

pub all-next : (list : List ℕ) (fd : ℤ) (n : ℕ) (x : Said) → Holds list fd n x → n < 2 ^ 64 → NextOf x.bytes 0 list n
all-next list fd n x h small =
    record {
      there = h.there;
      bytes = take_all n x.bytes (omega (arith, all-written list fd n x h)) ∙ sym h.bytes;
      counted = omega arith;
    }

-- a line
pub line-holds : {o o' line : List ℕ} {n : ℕ} → Put o 0 line o' n → (x : Said) → x ≡ to_error line
    → Holds o' (pos 2) n x
line-holds {o} {o'} {line} {n} put x is =
    subst (Holds o' (pos 2) n) (sym is)
    (record { to = refl; there = omega (arith, put.fits, put.next, put-length put); bytes = put_front put })

-- ---- an answer

-- a step answered r: it was refused, and its line is to be written; or its bytes are, which are at the front of out
pub data Given (x : Said) (word out : List ℕ) (r : Answer) : Type 0 where
  given-number : (n : ℕ) → r ≡ Err n → x ≡ to_error (word ++ item n ++ ascii "\n") → Given x word out r
  given-bytes : (bs : List ℕ) → r ≡ Ok (Wrote (length bs)) → x ≡ to_output bs → length bs ≤ length out
      → take (length bs) out ≡ bs → Given x word out r

not-number : (r : Answer) (n : ℕ) (y : Accepted) → r ≡ Err n → r ≡ Ok y → ⊥
not-number r n y e f = let z : ◌≡◌ {A = ℕ} 0 1 = cc in omega arith

same_number : (r : Answer) (n k : ℕ) → r ≡ Err n → r ≡ Err k → n ≡ k
same_number r n k e f = cc

pub number-said : (x : Said) (word out : List ℕ) (r : Answer) (n : ℕ) → r ≡ Err n → Given x word out r
    → x ≡ to_error (word ++ item n ++ ascii "\n")
number-said x word out r n f (given-number k e is) = let same : n ≡ k = same_number r n k f e in rw same is
number-said x word out r n f (given-bytes bs e is long front) = absurd (not-number r n (Wrote (length bs)) f e)

same_count : (r : Answer) (n k : ℕ) → r ≡ Ok (Wrote n) → r ≡ Ok (Wrote k) → n ≡ k
same_count r n k e f = cc

pub bytes-hold : (x : Said) (word out : List ℕ) (r : Answer) (n : ℕ) → r ≡ Ok (Wrote n) → Given x word out r
    → Holds out (pos 1) n x
bytes-hold x word out r n told (given-number k e is) = absurd (not-number r k (Wrote n) e told)
bytes-hold x word out r n told (given-bytes bs e is long front) =
    let same : n ≡ length bs = same_count r n (length bs) told e in
    subst (Holds out (pos 1) n) (sym is)
    (record { to = refl; there = omega arith; bytes = ap (λ (k : ℕ). take k out) same ∙ front })

-- one in a list that begins as out does
pub in_front : {x y : Said} {word word' out out' : List ℕ} {r r' : Answer} → Given x word out r → (rest : List ℕ)
    → out' ≡ out ++ rest → y ≡ x → word' ≡ word → r' ≡ r → Given y word' out' r'
in_front {out = out} (given-number n e is) rest l p q f =
    given-number n (f ∙ e) (p ∙ is ∙ ap (λ (w : List ℕ). to_error (w ++ item n ++ ascii "\n")) (sym q))
in_front {out = out} (given-bytes bs e is long front) rest l p q f =
    given-bytes bs (f ∙ e) (p ∙ is) (omega (arith, ap length l, length-append out rest))
    (ap (take (length bs)) l ∙ take-append-le (length bs) out rest long ∙ front)

-- no answer is given but these
pub none-else : (x : Said) (word out : List ℕ) (r : Answer) (y : Accepted) → r ≡ Ok y → ((k : ℕ) → y ≡ Wrote k → ⊥)
    → Given x word out r → ⊥
none-else x word out r y e other (given-number n f is) = let z : ◌≡◌ {A = ℕ} 0 1 = cc in omega arith
none-else x word out r y e other (given-bytes bs f is long front) =
    let same : y ≡ Wrote (length bs) = cc in other (length bs) same

-- ---- a save or a slip is refused, or writes bytes

data Plain (a : Reply) : Type 0 where
  plain-number : (n : ℕ) → a ≡ answered (refused n) → Plain a
  plain-bytes : (bs : List ℕ) → a ≡ answered (wrote bs) → Plain a

unless-plain : (o : Option ℕ) (d : After Reply SheetLent) (m : SheetLent) → Plain d.answer
    → Plain (unless o d m).answer
unfolding unless
unless-plain none d m h = h
unless-plain (some n) d m h = plain-number n refl

settle-plain : (o : Option ℕ) (d : After Outcome SheetLent) (m : SheetLent) (bs : List ℕ) → d.answer ≡ wrote bs
    → Plain (answered (settle o d m).answer)
unfolding settle
settle-plain none d m bs e = plain-bytes bs (ap answered e)
settle-plain (some n) d m bs e = plain-number n refl

says-bytes : (q : Question) (l : Layout) → (bs : List ℕ) × (says (step_of q) l ≡ wrote bs)
unfolding says step_of
says-bytes Save l = (job_of l, refl)
says-bytes Slip l = (slip_of l, refl)

plain : (q : Question) (r : Room) (m : SheetLent) → Plain (sheet_call r 0 (step (step_of q)) m).answer
unfolding sheet_call reply sheet_step
plain q r m =
    let x = says-bytes q (held (view 0 m)) in
    unless-plain _ _ m (settle-plain _ _ m x.0 x.1)

same-said : (x y : Outcome) → answered x ≡ answered y → x ≡ y
same-said x y e = cc

-- ---- what the call on the foil gives

pub has_room : (b : Board) (t s : List ℕ) (n most : ℕ) → length t ≡ sheet_size → length s ≡ strips_size → n ≡ most
    → sheet_room 0 (counts (b ∷ replicate 7 no_board)) (only_foil0 b t s) n ≡ with_output job_room most
unfolding sheet_room counts job_room
has_room b t s n most e f g = rw (e, f, g, sym (all-to-one b.entries)) refl

module _ (q : Question) (b : Board) (t s out out' word : List ℕ) (r : Answer) (named : word ≡ word_of q) where
  abbrev left : SheetLent
  left = only_foil0 b t s

  said-is : foil_said q left ≡ reply_said word (asked_on q left)
  unfolding foil_said
  said-is = ap (λ (w : List ℕ). reply_said w (asked_on q left)) (sym named)

  -- by the reply
  by-reply : (a : Reply) → a ≡ asked_on q left → Plain a → Tells a r → out' ≡ output_by a out
      → Given (foil_said q left) word out' r
  unfolding reply_said answer_said answer_of output_by output_after over_front
  by-reply a asked (plain-number n e) told gave =
      let same : told.said ≡ refused n = same-said _ _ (sym told.is ∙ e) in
      given-number n (told.answer ∙ ap answer_of same) (said-is ∙ ap (reply_said word) (sym asked ∙ e))
  by-reply a asked (plain-bytes x e) told gave =
      let same : told.said ≡ wrote x = same-said _ _ (sym told.is ∙ e) in
      let is : out' ≡ x ++ drop (length x) out = gave ∙ ap (λ (y : Reply). output_by y out) e in
      given-bytes x (told.answer ∙ ap answer_of same) (said-is ∙ ap (reply_said word) (sym asked ∙ e))
      (omega (arith, ap length is, length-append x (drop (length x) out)))
      (ap (take (length x)) is ∙ take-append_seam x (drop (length x) out))

  asked_is : asked_on q left ≡ (sheet_call (with_output job_room (bytes_of q)) 0 (step (step_of q)) left).answer
  unfolding asked_on
  asked_is = refl

  pub asked-given : (bs₀ : List Board) → bs₀ ≡ b ∷ replicate 7 no_board → length t ≡ sheet_size → length s ≡ strips_size
      → length out ≡ bytes_of q → SheetReadDone 0 (step_of q) (sheet_lent bs₀ t s) out r out'
      → Given (foil_said q left) word out' r
  asked-given bs₀ is e f g given =
      let done = subst (λ (x : List Board). SheetReadDone 0 (step_of q) (sheet_lent x t s) out r out') is given in
      let a : Reply = (on_sheet 0 (step (step_of q)) left (length out)).answer in
      let asked : a ≡ asked_on q left =
      ap (λ (x : Room). (sheet_call x 0 (step (step_of q)) left).answer)
      (has_room b t s (length out) (bytes_of q) e f g)
      ∙ sym asked_is in
      by-reply a asked (plain q _ left) done.tells done.output

-- a descriptor is 1 or 2
said-fits : (q : Question) (m : SheetLent) → FitsSigned w32 (foil_said q m).fd
unfolding foil_said asked_on reply_said answer_said
said-fits q m = go _ (plain q _ m)
  where
    go : (a : Reply) → Plain a → FitsSigned w32 (reply_said (word_of q) a).fd
    go a (plain-number n e) = rw e (sfits_lit tt)
    go a (plain-bytes bs e) = rw e (sfits_lit tt)

all-fit : (q : Question) (bs : List ℕ) → FitsSigned w32 (said_of q bs).fd
unfolding said_of end_said foil_said asked_of
all-fit q bs = go (end_of bs)
  where
    go : (x : Ended) → FitsSigned w32 (end_said q bs x).fd
    go (AtMark b) = said-fits q (job_end bs unused).state
    go (ByBoard n) = sfits_lit tt
    go (ByFile n) = sfits_lit tt

pub fd-kept : (q : Question) (bs list : List ℕ) (fd : ℤ) (n : ℕ) → Holds list fd n (said_of q bs)
    → to_z w32 (of_z w32 fd) ≡ fd
fd-kept q bs list fd n h = to_z-of_z (subst (FitsSigned w32) (sym h.to) (all-fit q bs))

pub said-as : (q q' : Question) (m : SheetLent) → q ≡ q' → foil_said q m ≡ foil_said q' m
said-as q q' m e = ap (λ (x : Question). foil_said x m) e

-- ---- how the job ended

mark-board : (o : RecordReply) (b c : Board) → ended_of o b ≡ AtMark c → b ≡ c
unfolding ended_of
mark-board (refused_whole n) b c e = absurd (let z : ◌≡◌ {A = ℕ} 0 1 = cc in omega arith)
mark-board (ran_steps given place) b c e = absurd (let z : ◌≡◌ {A = ℕ} 0 1 = cc in omega arith)
mark-board end_mark b c e = cc

module _ (bs : List ℕ) (x : Ended) (t s : List ℕ) (left : JobLeft bs unused x t s) where
  pub end_is : end_of bs ≡ x
  unfolding end_of
  end_is = sym left.ended

  pub reached : (b : Board) → x ≡ AtMark b → Reached bs b t s
  reached b e =
      let same : board_left bs unused ≡ b = mark-board (job_end bs unused).answer _ b (sym left.ended ∙ e) in
      record {
        ended = end_is ∙ e;
        left = ap (λ (c : Board). only_foil0 c t s) (sym same) ∙ left.state;
      }

  pub mark-said : (q : Question) (b : Board) → x ≡ AtMark b → said_of q bs ≡ foil_said q (only_foil0 b t s)
  unfolding said_of end_said foil_said asked_of
  mark-said q b e =
      let here = reached b e in
      ap (end_said q bs) here.ended ∙ ap (λ (m : SheetLent). reply_said (word_of q) (asked_on q m)) (sym here.left)

  pub board-said : (q : Question) (n : ℕ) → x ≡ ByBoard n
      → said_of q bs ≡ to_error (ascii "board" ++ item n ++ ascii "\n")
  unfolding said_of end_said board_line
  board-said q n e = ap (end_said q bs) (end_is ∙ e)

  pub file-said : (q : Question) (n : ℕ) → x ≡ ByFile n
      → said_of q bs ≡ to_error (ascii "file" ++ item n ++ ascii "\n")
  unfolding said_of end_said file_line
  file-said q n e = ap (end_said q bs) (end_is ∙ e)
