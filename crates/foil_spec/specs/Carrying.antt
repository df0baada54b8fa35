-- Carrying over a foil that was begun under document 01's rules (document 02, P9): its state, which is only read,
-- whether it keeps those rules, the nets that are lifted, and the foil by today's rules.
use Rattle.std.specs.Prelude.{ℕ, ◌/◌, Bool, not, ◌&&◌, ◌||◌, List, map, ltb, length}
use Rattle.foil_spec.specs.Lists.{range, keep, any}
use Rattle.foil_spec.specs.Limits.{max_entries, max_strips}
use Rattle.foil_spec.specs.Foil.{Entry, pen, Layout, under_patch}
use Rattle.foil_spec.specs.Nets.{of_net}
use Rattle.foil_spec.specs.Sound.{entry_at, formerly, sound_by}
use Rattle.foil_spec.specs.declared.OldBoard.{OldBoard}

-- a state of document 01: the board's record, the patch table and the strip list
pub record Old : Type 0 where
  pub board : OldBoard
  pub table : List ℕ
  pub strips : List ℕ

-- the same from its three parts
abbrev pub old : OldBoard → List ℕ → List ℕ → Old
old b t s = record { board = b; table = t; strips = s }

-- its table or strip list is too short
unfoldable pub old_short : Old → Bool
old_short o = ltb (length o.table / 5) max_entries || ltb (length o.strips / 4) max_strips

-- it keeps document 01's rules
unfoldable pub old_sound : Old → Bool
old_sound o =
    sound_by (formerly o.board.reach) o.board.width o.board.height o.board.entries o.board.strips
    o.table o.strips

-- its entries
unfoldable pub old_entries : Old → List Entry
old_entries o = map (entry_at o.table) (range 0 o.board.entries)

-- a patch of the row es, which blocks up to d away, blocks a point of a leg of the net
unfoldable pub net_blocked : ℕ → List Entry → ℕ → Bool
net_blocked d es net = any (λ (e : Entry). of_net net e && under_patch d es e) es

-- the nets of which that is so, rising
unfoldable pub blocked_nets : ℕ → List Entry → List ℕ
blocked_nets d es = keep (net_blocked d es) (range 1 999)

-- the entries of all others, in their order
unfoldable pub unblocked : ℕ → List Entry → List Entry
unblocked d es = keep (λ (e : Entry). not (net_blocked d es e.net)) es

-- the nets that are lifted whole
unfoldable pub lifted_nets : Old → List ℕ
lifted_nets o = blocked_nets o.board.reach (old_entries o)

-- the foil by today's rules, without them: h is 0, g the old reach
unfoldable pub carried : Old → Layout
carried o =
    record {
      width = o.board.width;
      height = o.board.height;
      pen = pen 0 o.board.reach;
      entries = unblocked o.board.reach (old_entries o);
    }
