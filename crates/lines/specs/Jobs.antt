-- Jobs with the text that the job program writes for each, whole: document 01's; the same with a patch across its track
-- and a leg across its patch, which are turned down; and one with lines of all kinds but strips, cut off.
use Rattle.std.specs.Prelude.{ℕ, ◌≡◌, List, [], ◌∷◌, ◌++◌, map}
use Rattle.foil_spec.specs.Text.{ascii}
use Rattle.foil_spec.specs.Starred.{job_bytes, crossing_bytes}
use Rattle.lines.specs.Output.{output}

-- a job: the bytes of its file, and what the program writes for them
pub record Job : Type 0 where
  pub bytes : List ℕ
  pub text : List ℕ

-- 4 by 1, in one record: a patch on (3,0), a track that is laid and lifted again, and a leg. Then a track from the
-- patch, the lift of a net that is not there, and a patch without its fields
unfoldable pub cut_bytes : List ℕ
cut_bytes =
    0x1f ∷ 0x04 ∷ 0x00 ∷ 0x01 ∷ 0x00 ∷ 0x00 ∷ 0x00 ∷ 0x03 ∷ 0x00 ∷ 0x00 ∷ 0x00 ∷ 0x04 ∷ 0x00 ∷ 0x01 ∷ 0x00
    ∷ 0x05 ∷ 0x00 ∷ 0x00 ∷ 0x00 ∷ 0x00 ∷ 0x00 ∷ 0x01 ∷ 0x00 ∷ 0x00 ∷ 0x00 ∷ 0x05 ∷ 0x00
    ∷ 0x07 ∷ 0x00 ∷ 0x02 ∷ 0x00 ∷ 0x00 ∷ 0x00 ∷ 0x03 ∷ 0x00 ∷ 0x01 ∷ 0x00
    ∷ 0x04 ∷ 0x09 ∷ 0x00 ∷ 0x03 ∷ 0x00 ∷ 0x00 ∷ 0x00 ∷ 0x00 ∷ 0x00 ∷ 0x00 ∷ 0x00
    ∷ 0x08 ∷ 0x06 ∷ 0x00 ∷ 0x02 ∷ 0x00 ∷ []

-- the jobs
unfoldable pub jobs : List Job
jobs =
    record {
      bytes = job_bytes;
      text =
          ascii "board 0\npatch 0\ntrack 5 0 2 0,0 0,3 4,3 4,0\nstrip 1 0 2 3\nstrip 3 0 4 3\nstrip 5 0 6 4\n";
    }
    ∷ record {
      bytes = crossing_bytes;
      text =
          ascii "board 0\npatch 0\ntrack 5 0 2 0,0 0,3 4,3 4,0\npatch 21\nleg 7 21\n"
          ++ ascii "strip 1 0 2 3\nstrip 3 0 4 3\nstrip 5 0 6 4\n";
    }
    ∷ record {
      bytes = cut_bytes;
      text = ascii "board 0\npatch 0\ntrack 5 0 0 0,0 1,0\nlift 5 0\nleg 7 0\ntrack 9 8\nlift 6 6\nfile 14\n";
    }
    ∷ []

-- the program writes the text of each
abbrev pub JobsWritten : Type 0
JobsWritten = map (λ (j : Job). output j.bytes) jobs ≡ map (λ (j : Job). j.text) jobs
