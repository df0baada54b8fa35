-- From the numbers of a table's first 512 places to the table of entries: said once for whatever a call promises of
-- the table's numbers before and after, then for a step, for a step that only reads, and for the ohms.
use Prim.Native.Nat.{ℕ, ◌<◌, ◌≤◌}
use native.Mathlib.Omega.{arith}
use mathlib.Core.Path.{◌≡◌, refl, sym, ap, ap₂, ◌∙◌, subst, subst₂}
use mathlib.Core.Logic.{⊎_elim}
use mathlib.Core.List.{List, [], ◌++◌, map, append-nil}
use lib.ListN.{length, take, drop, length-take, length-drop, length-append, drop_of_length-le, take-append-drop}
use lib.Seq.{take_at}
use Rattle.foil_spec.specs.Lists.{range, each}
use Rattle.foil_spec.specs.Limits.{sheet_foils, sheet_entries, sheet_size}
use Rattle.foil_spec.specs.Foil.{Entry, entry_numbers}
use Rattle.foil_spec.specs.Ledger.{Step}
use Rattle.foil_spec.specs.Lent.{entry_at}
use Rattle.foil_spec.specs.Calls.{step, ohms, Reply, output_by}
use Rattle.foil_spec.specs.Sheet.{SheetLent}
use Rattle.foil_spec.specs.declared.Ink.{Ink}
use Rattle.list_laws.proofs.Tests.{lt-or-le}
use Rattle.list_laws.proofs.Members.{each_append}
use Rattle.ledger_laws.proofs.Stored.{length-entries, read_back}
use Rattle.foil.specs.Contract.{Answer}
use Rattle.ohms.specs.Contract.{resistance_of}
use Rattle.ohms.specs.declared.Resistance.{Resistance}
use Rattle.sheet_rows.specs.declared.Sheet.{Sheet}
use Rattle.sheet_rows.specs.Rows.{sheet_lent}
use Rattle.sheet.specs.Contract.{on_sheet, Tells, SheetGave, SheetStepDone, SheetOutputDone, SheetReadDone}
use Rattle.sheet.specs.Contract.{SheetOhmsDone}
use Rattle.host.specs.Flats.{places_lent, numbers_lent, front_of, with_front}
use Rattle.host.specs.Calls.{HostDone, HostWrote, HostRead, HostOhms}
use Rattle.host.proofs.Flats.{entries_of, load-length, loaded, stored, lent-on}
use Rattle.host.proofs.Fronts.{longer, Longer, call-longer}

-- ---- what a call promises of the table's numbers

-- the numbers of a table
abbrev pub numbers : List Entry → List ℕ
numbers es = each entry_numbers es

-- they say what the entries are, and how many
pub numbers-same : (es es' : List Entry) → numbers es ≡ numbers es' → es ≡ es'
numbers-same es es' e =
    let n : length es ≡ length es' = omega (arith, length-entries es, length-entries es', ap length e) in
    sym (read_back es [])
    ∙ ap₂ (λ (t : List ℕ) (k : ℕ). map (entry_at (t ++ [])) (range 0 k)) e n
    ∙ read_back es' []

-- a table's numbers are those of its first 512 places, then the others
fronts : (es : List Entry) → numbers (take sheet_entries es) ++ numbers (drop sheet_entries es) ≡ numbers es
fronts es =
    sym (each_append entry_numbers (take sheet_entries es) (drop sheet_entries es))
    ∙ ap numbers (take-append-drop sheet_entries es)

-- the numbers ns of the table es are loaded, the first n of them are lent on and left as new, and all are stored, which
-- leaves es'
pub record Stored (es : List Entry) (ns : List ℕ) (n : ℕ) (new : List ℕ) (es' : List Entry) : Type 0 where
  pub loaded : ns ≡ front_of es
  pub lent : n ≡ numbers_lent (length es)
  pub size : length new ≡ length (take n ns)
  pub stored : es' ≡ with_front (new ++ drop n ns) es

module _ (P : List ℕ → List ℕ → Type 0) where
  module _ (more : (t t' rest : List ℕ) → length t ≡ sheet_size → P t t' → P (t ++ rest) (t' ++ rest)) where
    -- front and rest, where the front is sheet_size numbers or there is no rest
    on-whole : (es es' : List Entry) → P (numbers (take sheet_entries es)) (numbers es')
        → P (numbers (take sheet_entries es) ++ numbers (drop sheet_entries es))
        (numbers es' ++ numbers (drop sheet_entries es))
    on-whole es es' d =
        let front : List ℕ = numbers (take sheet_entries es) in
        let rest : List ℕ = numbers (drop sheet_entries es) in
        ⊎_elim
        (λ (l : length es < sheet_entries).
        let short : length es ≤ sheet_entries = omega (arith, l) in
        let none : rest ≡ [] = ap numbers (drop_of_length-le es short) in
        subst₂ P (sym (ap (λ (x : List ℕ). front ++ x) none ∙ append-nil front))
        (sym (ap (λ (x : List ℕ). numbers es' ++ x) none ∙ append-nil (numbers es'))) d)
        (λ (l : sheet_entries ≤ length es).
        more front (numbers es') rest
        (omega (arith, l, length-entries (take sheet_entries es), length-take sheet_entries es)) d)
        (lt-or-le (length es) sheet_entries)

    -- what is promised of the numbers is so of those of the table
    pub on-table : (es : List Entry) (ns : List ℕ) (n : ℕ) (new : List ℕ) (es' : List Entry) → Stored es ns n new es'
        → P (take n ns) new → P (numbers es) (numbers es')
    on-table es ns n new es' w d =
        let back : List ℕ = new ++ drop n ns in
        let full : length ns ≡ sheet_size = ap length w.loaded ∙ load-length es (places_lent (length es)) in
        let size : length new ≡ n = omega (arith, full, w.lent, w.size, length-take n ns) in
        let full' : length back ≡ sheet_size =
        length-append new (drop n ns) ∙ omega (arith, full, w.lent, size, length-drop n ns) in
        let before : take n ns ≡ numbers (take sheet_entries es) =
        ap (λ (k : ℕ). take k ns) w.lent ∙ lent-on ns (length es) full
        ∙ ap numbers (ap (λ (x : List ℕ). entries_of x (length es)) w.loaded ∙ loaded es) in
        let after : new ≡ numbers (entries_of back (length es)) =
        sym (take_at new (drop n ns) n size) ∙ ap (λ (k : ℕ). take k back) w.lent ∙ lent-on back (length es) full' in
        subst₂ P (fronts es)
        (sym (each_append entry_numbers (entries_of back (length es)) (drop sheet_entries es))
        ∙ ap numbers (sym (w.stored ∙ stored back es)))
        (on-whole es (entries_of back (length es)) (subst₂ P before after d))

-- ---- a step

module _ (k : ℕ) (c : Step) (b : Sheet) (s : List ℕ) (r : Answer) (b' : Sheet) (s' : List ℕ) where
  abbrev m : List ℕ → SheetLent
  m t = sheet_lent b.boards t s

  abbrev Stepped : List ℕ → List ℕ → Type 0
  Stepped t t' = SheetStepDone k c (m t) r b' t' s'

  gave-more : (t t' rest : List ℕ) (n : ℕ) → Longer rest k (step c) (m t) n
      → SheetGave (on_sheet k (step c) (m t) n) r b' t' s'
      → SheetGave (on_sheet k (step c) (m (t ++ rest)) n) r b' (t' ++ rest) s'
  gave-more t t' rest n l d =
      record {
        tells = subst (λ (x : Reply). Tells x r) (sym l.answer) d.tells;
        state = ap (longer rest) d.state ∙ sym l.state;
      }

  module _ (eight : length b.boards ≡ sheet_foils) (es : List Entry) (ns : List ℕ) (n : ℕ) (new : List ℕ)
      (es' : List Entry) (w : Stored es ns n new es') where
    pub whole-done : Stepped (take n ns) new → HostDone k c b es s r b' es' s'
    whole-done =
        on-table Stepped
        (λ t t' rest full d. gave-more t t' rest 0 (call-longer rest k (step c) (m t) 0 full eight) d) es ns n new es' w

    module _ (out out' : List ℕ) where
      abbrev Writes : List ℕ → List ℕ → Type 0
      Writes t t' = SheetOutputDone k c (m t) out r b' t' s' out'

      writes_more : (t t' rest : List ℕ) → length t ≡ sheet_size → Writes t t' → Writes (t ++ rest) (t' ++ rest)
      writes_more t t' rest full d =
          let l = call-longer rest k (step c) (m t) (length out) full eight in
          record {
            gave = gave-more t t' rest (length out) l d.gave;
            output = d.output ∙ ap (λ (x : Reply). output_by x out) (sym l.answer);
          }

      pub whole-wrote : Writes (take n ns) new → HostWrote k c b es s out r b' es' s' out'
      whole-wrote = on-table Writes writes_more es ns n new es' w

-- ---- what only reads what it is lent of the sheet, and leaves the table as it is

-- the first n numbers are those of the table that is loaded
pub as-loaded : (es : List Entry) (ns : List ℕ) (n : ℕ) → ns ≡ front_of es → n ≡ numbers_lent (length es)
    → Stored es ns n (take n ns) (with_front (take n ns ++ drop n ns) es)
as-loaded es ns n front e = record { loaded = front; lent = e; size = refl; stored = refl }

module _ (k : ℕ) (b : Sheet) (s : List ℕ) (eight : length b.boards ≡ sheet_foils) (es : List Entry) (ns : List ℕ)
    (n : ℕ) (front : ns ≡ front_of es) (e : n ≡ numbers_lent (length es)) where
  module _ (c : Step) (out : List ℕ) (a : Answer) (out' : List ℕ) where
    abbrev Reads : List ℕ → List ℕ → Type 0
    Reads t t' = SheetReadDone k c (sheet_lent b.boards t s) out a out'

    reads_more : (t t' rest : List ℕ) → length t ≡ sheet_size → Reads t t' → Reads (t ++ rest) (t' ++ rest)
    reads_more t t' rest full d =
        let l = call-longer rest k (step c) (sheet_lent b.boards t s) (length out) full eight in
        record {
          tells = subst (λ (x : Reply). Tells x a) (sym l.answer) d.tells;
          state = ap (longer rest) d.state ∙ sym l.state;
          output = d.output ∙ ap (λ (x : Reply). output_by x out) (sym l.answer);
        }

    pub whole-read : SheetReadDone k c (sheet_lent b.boards (take n ns) s) out a out' → HostRead k c b es s out a out'
    whole-read = on-table Reads reads_more es ns n _ _ (as-loaded es ns n front e)

  module _ (net : ℕ) (i : Ink) (r : Resistance) where
    abbrev Measures : List ℕ → List ℕ → Type 0
    Measures t t' = SheetOhmsDone k net i (sheet_lent b.boards t s) r

    measures-more : (t t' rest : List ℕ) → length t ≡ sheet_size → Measures t t' → Measures (t ++ rest) (t' ++ rest)
    measures-more t t' rest full d =
        let l = call-longer rest k (ohms net i) (sheet_lent b.boards t s) 0 full eight in
        record {
          answer = d.answer ∙ ap resistance_of (sym l.answer);
          state = ap (longer rest) d.state ∙ sym l.state;
        }

    pub whole-ohms : SheetOhmsDone k net i (sheet_lent b.boards (take n ns) s) r → HostOhms k net i b es s r
    whole-ohms = on-table Measures measures-more es ns n _ _ (as-loaded es ns n front e)
