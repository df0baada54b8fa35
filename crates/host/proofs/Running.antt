-- From the numbers of a table's first 512 places to the table of entries, for a record.
use Prim.Native.Nat.{ℕ}
use mathlib.Core.Path.{◌≡◌, sym, ap, ◌∙◌, subst}
use mathlib.Core.List.{List, ◌++◌}
use lib.ListN.{length, take}
use Rattle.foil_spec.specs.Limits.{sheet_foils, sheet_size}
use Rattle.foil_spec.specs.Foil.{Entry}
use Rattle.foil_spec.specs.Job.{has}
use Rattle.foil_spec.specs.Calls.{run_record, Reply, output_by}
use Rattle.sheet_rows.specs.declared.Sheet.{Sheet}
use Rattle.sheet_rows.specs.Rows.{sheet_lent}
use Rattle.sheet.specs.Contract.{RecordTells, SheetRecordDone}
use Rattle.job.specs.Contract.{Reply as JobReply}
use Rattle.host.specs.Records.{HostRan}
use Rattle.host.proofs.Fronts.{longer, call-longer}
use Rattle.host.proofs.Tables.{Stored, on-table}

module _ (k : ℕ) (bs : List ℕ) (at : ℕ) (b : Sheet) (s ks : List ℕ) (r : JobReply) (b' : Sheet) (s' ks' : List ℕ)
    (eight : length b.boards ≡ sheet_foils) where
  abbrev Runs : List ℕ → List ℕ → Type 0
  Runs t t' = SheetRecordDone k bs at (sheet_lent b.boards t s) ks r b' t' s' ks'

  runs-more : (t t' rest : List ℕ) → length t ≡ sheet_size → Runs t t' → Runs (t ++ rest) (t' ++ rest)
  runs-more t t' rest full d =
      let l = call-longer rest k (run_record bs at) (sheet_lent b.boards t s) (length ks) full eight in
      record {
        tells = subst (λ (x : Reply). RecordTells (has bs at) x r) (sym l.answer) d.tells;
        state = ap (longer rest) d.state ∙ sym l.state;
        output = d.output ∙ ap (λ (x : Reply). output_by x ks) (sym l.answer);
      }

  pub whole-ran : (es : List Entry) (ns : List ℕ) (n : ℕ) (new : List ℕ) (es' : List Entry) → Stored es ns n new es'
      → Runs (take n ns) new → HostRan k bs at b es s ks r b' es' s' ks'
  whole-ran = on-table Runs runs-more
