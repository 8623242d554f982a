-- Small examples of what docs/PROMISES.md rules out for the calls, the methods and the program: one table under one proof. Assumes nothing.
use Rattle.std.specs.Prelude.{◌≡◌, refl, List, [], ◌∷◌, ◌++◌, ℕ, replicate}
use Rattle.std.proofs.Math.Decide.{ℕ_discrete, dec_le, dec_lt}
use Rattle.rules.specs.Search.{all?, some?, first}
use Rattle.rules.specs.Cells.{first_above, same?, block, store}
use Rattle.rules.specs.Block.{ramp, cycle, state_of}
use Rattle.rules.specs.Plain as P
use Rattle.rules.specs.Stage.{absent?, names?, stage_ok?, change_within}
use Rattle.rules.specs.Staged as S
use Rattle.rules.specs.Batches as B
use Rattle.rules.specs.Accept.{refused, accept_plain, accept_staged, stages_of, index_width, accept, same_settings?, genuine?, guarantee, reported, promised, block_count, width_of, batch_start}
use Rattle.rules.specs.Calls.{erase_call, change_call, read_call, sound?, read_bit, change_sheet}
use Rattle.rules.specs.Records.{check_form, check_unused, check_held, record_step, sum_held, bits_held, places_held}
use Rattle.rules.specs.declared.Settings.{Settings}
use Rattle.rules.specs.declared.Answer.{Answer}
use Rattle.rules.specs.declared.Answer.TheVariants.{Done, BadShape, BadLength, ShortOutput, BadBit, BadLevel, BadSheet, Erase, BadRecord}

-- plain, k = 2, L = 1, n = 5: two blocks and a spare cell
abbrev plain5 : Settings
plain5 = accept 0 2 1 5

-- plain, k = 2, L = 1, n = 6: three blocks
abbrev plain6 : Settings
plain6 = accept 0 2 1 6

-- plain, k = 2, L = 1, n = 10: five blocks
abbrev plain10 : Settings
plain10 = accept 0 2 1 10

-- staged, k = 4, L = 2, n = 32: five blocks, and batch 1 from cell 20
abbrev staged32 : Settings
staged32 = accept 1 4 2 32

-- staged, k = 4, L = 2, n = 28: four blocks, and batch 1 from cell 16
abbrev staged28 : Settings
staged28 = accept 1 4 2 28

-- staged, k = 8, L = 2, n = 148: eight blocks, and two batches of 42 cells from cell 64
abbrev staged148 : Settings
staged148 = accept 1 8 2 148

-- of these settings, bits 0 and 1 at weight 1 and six full blocks: 4 parity blocks of stage 1 aren't full, and 8 of stage 2
abbrev at_stage0 : List ℕ
at_stage0 = 1 ∷ replicate 8 0 ++ (1 ∷ replicate 6 0 ++ (replicate 48 2 ++ replicate 84 0))

-- of these settings, block j at weight 1 for bit j, for j from 0 to 6, and one full block
abbrev seven_active : List ℕ
seven_active =
    1 ∷ replicate 8 0 ++ (1 ∷ replicate 8 0 ++ (1 ∷ replicate 8 0 ++ (1 ∷ replicate 8 0 ++ (1 ∷ replicate 8 0 ++ (1 ∷ replicate 8 0 ++ (1 ∷ replicate 1 0 ++ (replicate 8 2 ++ replicate 84 0)))))))

-- what at_stage0 becomes by a change of bit 2, at stage 2, with these cells in batch 1 and this level in the first cell of the fifth parity block
abbrev at_stage2 : List ℕ → ℕ → List ℕ
at_stage2 batch x =
    1 ∷ 0 ∷ 1 ∷ 0 ∷ 1 ∷ 0 ∷ 0 ∷ 0 ∷ x ∷ 1 ∷ replicate 6 0 ++ (replicate 48 2 ++ (batch ++ (0 ∷ 0 ∷ 1 ∷ 0 ∷ 0 ∷ 2 ∷ 0 ∷ 1 ∷ 0 ∷ 0 ∷ 1 ∷ 1 ∷ 0 ∷ 1 ∷ 2 ∷ 0 ∷ 2 ∷ 0 ∷ 0 ∷ 2 ∷ 1 ∷ 0 ∷ 2 ∷ 2 ∷ replicate 18 2)))

-- the record of 28 cells with another m: acceptance never gives it
abbrev forged : Settings
forged = record { kind = 1; k = 4; top = 2; n = 28; m = 5; s = 2; w = 2 }

-- five levels
abbrev cells : ℕ → ℕ → ℕ → ℕ → ℕ → List ℕ
cells a b c d e = a ∷ b ∷ c ∷ d ∷ e ∷ []

-- the change of bit i answers so and leaves the sheet as it was
abbrev Kept : List ℕ → ℕ → Answer → Type 0
Kept xs i a = change_call plain5 xs i ≡ record { answer = a; sheet = xs }

-- a reading of two bits is refused with BadSheet, and leaves their places
abbrev Unread : Settings → List ℕ → Type 0
Unread r xs = read_call r xs (9 ∷ 9 ∷ []) ≡ record { answer = BadSheet; places = 9 ∷ 9 ∷ [] }

-- a change of bit 0 is refused with BadSheet, and leaves the sheet as it was
abbrev Unchanged : Settings → List ℕ → Type 0
Unchanged r xs = change_call r xs 0 ≡ record { answer = BadSheet; sheet = xs }

-- the staged sheet of five blocks with these levels in the first cells of its four cycles and this level in its last block
abbrev five_blocks : ℕ → ℕ → ℕ → ℕ → ℕ → List ℕ
five_blocks a b c d e = a ∷ replicate 4 0 ++ (b ∷ replicate 4 0 ++ (c ∷ replicate 4 0 ++ (d ∷ replicate 4 e ++ replicate 12 0)))

pub record RuledOut : Type 0 where
  -- erase does not clear the blocks only: the spare cell too is set to 0
  pub erases_all : erase_call plain5 (cells 1 1 0 1 9) ≡ record { answer = Done 3; sheet = replicate 5 0 }
  -- a sheet of another length is not cleared
  pub erases_nothing : erase_call plain5 (1 ∷ 1 ∷ 0 ∷ 1 ∷ []) ≡ record { answer = BadLength; sheet = 1 ∷ 1 ∷ 0 ∷ 1 ∷ [] }
  -- a reading refused for a short output leaves its place, and no level is looked at before
  pub short_output : read_call plain5 (cells 2 0 0 0 0) (9 ∷ []) ≡ record { answer = ShortOutput; places = 9 ∷ [] }
  -- a sheet of another length, with a level above L and no such bit, is BadLength
  pub length_first : Kept (2 ∷ 0 ∷ 0 ∷ 0 ∷ []) 2 BadLength
  -- with a level above L and no such bit it is BadBit
  pub bit_next : Kept (cells 2 0 0 0 0) 2 BadBit
  -- of two cells above L the first is named, on a sheet that breaks the sheet rules too
  pub level_next : Kept (cells 0 0 2 0 3) 0 (BadLevel 2)
  -- the lowest-numbered empty block is taken, and not the second
  pub lowest_empty : change_call plain5 (replicate 5 0) 1 ≡ record { answer = Done 1; sheet = cells 0 1 0 0 0 }
  -- an empty block before one that isn't empty is not read: 00 10
  pub hole_unread : Unread plain5 (cells 0 0 1 0 0)
  -- it is not changed either
  pub hole_unchanged : Unchanged plain5 (cells 0 0 1 0 0)
  -- a full block after an empty one is a hole too: 00 11
  pub hole_before_full : Unread plain5 (cells 0 0 1 1 0)
  -- empty blocks after the last one in use are no hole: 10 00
  pub no_hole : read_call plain5 (cells 1 0 0 0 0) (9 ∷ 9 ∷ []) ≡ record { answer = Done 1; places = 1 ∷ 0 ∷ [] }
  -- all k bits have active blocks and the last block that isn't empty is full: 10 01 11
  pub full_last : Unread plain6 (1 ∷ cells 0 0 1 1 1)
  -- the last block that isn't empty is not block m - 1, and an active one may stand at any number: 11 10 01 11 00
  pub full_then_empty : Unread plain10 (1 ∷ 1 ∷ 1 ∷ 0 ∷ 0 ∷ cells 1 1 1 0 0)
  -- a full block before the last one in use is accepted: 10 11 01
  pub full_before : read_call plain6 (1 ∷ cells 0 1 1 0 1) (9 ∷ 9 ∷ []) ≡ record { answer = Done 2; places = 1 ∷ 1 ∷ [] }
  -- one bit without an active block, and the full block last is accepted: 10 11 00
  pub one_bit_less : read_call plain6 (1 ∷ cells 0 1 1 0 0) (9 ∷ 9 ∷ []) ≡ record { answer = Done 1; places = 1 ∷ 0 ∷ [] }
  -- at stage 0 of a staged sheet a hole is refused too: 1000 0000 0010 0001 0000
  pub staged_hole : Unchanged staged32 (five_blocks 1 0 1 1 0)
  -- and a full block last after k active ones: 1000 0100 0010 0001 2222
  pub staged_full_last : Unchanged staged32 (five_blocks 1 1 1 1 2)
  -- also where an active block's value is 0: 2000 0100 0010 0001 2222
  pub staged_zero_full_last : Unchanged staged32 (five_blocks 2 1 1 1 2)
  -- where that block is empty the sheet is accepted, and bit 0 takes its next step: 1000 0100 0010 0001 0000
  pub staged_empty_last : change_call staged32 (five_blocks 1 1 1 1 0) 0 ≡ record { answer = Done 1; sheet = five_blocks 2 1 1 1 0 }
  -- where there is no place the sheet stays as it was
  pub no_place_left : Kept (cells 1 1 0 1 0) 0 Erase
  -- a move goes to the next stage, here 1, and not to a later one in which at least k parity blocks aren't full too: 4 levels in the blocks, and the digits of 1 to 8
  pub next_stage : (change_call staged148 seven_active 7).answer ≡ Done 22
  -- a stage with fewer than k parity blocks that aren't full is passed over, and the move goes to stage 2
  pub stage_passed : change_call staged148 at_stage0 2 ≡ record { answer = Done 57; sheet = at_stage2 (replicate 42 0) 1 }
  -- at stage 2 batch 1 is no longer looked at, whatever it holds
  pub lower_batch : read_call staged148 (at_stage2 (1 ∷ replicate 41 2) 1) (replicate 8 9) ≡ record { answer = Done 3; places = 1 ∷ 1 ∷ 1 ∷ replicate 5 0 }
  -- a change at stage 2 raises the bit's own parity block
  pub own_block : change_call staged148 (at_stage2 (replicate 42 0) 1) 4 ≡ record { answer = Done 1; sheet = at_stage2 (replicate 42 0) 2 }
  -- a record that acceptance never gives has no guarantee
  pub no_guarantee : promised forged ≡ 0
  -- a record that acceptance never gives has no blocks
  pub no_blocks : block_count forged ≡ 0
  -- a record that acceptance never gives has no width
  pub no_width : width_of forged ≡ 0
  -- batch 1 starts straight after the blocks, and not where a batch 2 would
  pub batch1 : batch_start staged28 1 ≡ 16
  -- of two batches the first stands first
  pub first_of_two : batch_start staged148 1 ≡ 64
  -- of two batches the second stands after the first
  pub second_of_two : batch_start staged148 2 ≡ 106
  -- there is no batch 2 where s is 2: it would start past the sheet
  pub batch2 : batch_start staged28 2 ≡ 0
  -- the program tests for BadRecord (here n = 4) before BadBit
  pub record_first : record_step (2 ∷ 0 ∷ 2 ∷ 1 ∷ 4 ∷ 0 ∷ 9 ∷ 0 ∷ []) plain5 (cells 0 1 0 0 0) ≡ record { answer = BadRecord; settings = plain5; cells = cells 0 1 0 0 0 }
  -- the sum held is that of the sheet's n cells, and not of cells after them
  pub sum_of_the_sheet : sum_held plain5 (1 ∷ cells 0 0 0 0 9) ≡ 1
  -- while no sheet is held the sum is 0
  pub sum_of_none : sum_held refused (cells 1 0 0 0 0) ≡ 0
  -- the bits held are the k bits
  pub bits_of_the_sheet : bits_held plain5 (cells 0 1 0 0 0) (9 ∷ 9 ∷ 9 ∷ []) ≡ 0 ∷ 1 ∷ []
  -- no place after the bits held is written
  pub place_after : places_held plain5 (cells 0 1 0 0 0) (9 ∷ 9 ∷ 9 ∷ []) ≡ 0 ∷ 1 ∷ 9 ∷ []
  -- no bit is held while no sheet is
  pub bits_of_none : bits_held refused (cells 0 1 0 0 0) (9 ∷ 9 ∷ 9 ∷ []) ≡ []
  -- a refused erase (k = 3 with L = 1) keeps the sheet held
  pub sheet_kept : record_step (1 ∷ 0 ∷ 3 ∷ 1 ∷ 9 ∷ 0 ∷ 0 ∷ 0 ∷ []) plain5 (cells 0 1 0 0 0) ≡ record { answer = BadShape; settings = plain5; cells = cells 0 1 0 0 0 }

-- every example is what the definitions compute
pub ruled_out : RuledOut
unfolding erase_call change_call read_call sound? read_bit change_sheet genuine? same_settings? guarantee reported batch_start accept_plain accept_staged stages_of index_width first_above record_step check_form check_unused check_held
    P.sound? P.blocks_ok? P.packed? P.read P.change P.plan P.bit_of P.states S.read S.change S.read_cells S.change_cells S.sheet_ok? B.sound? B.decode B.batch B.entry_of B.number B.digits
    stage_ok? names? absent? change_within all? some? first same? block store state_of cycle ramp ℕ_discrete dec_le dec_lt
ruled_out = record {
  erases_all = refl;
  erases_nothing = refl;
  short_output = refl;
  length_first = refl;
  bit_next = refl;
  level_next = refl;
  lowest_empty = refl;
  hole_unread = refl;
  hole_unchanged = refl;
  hole_before_full = refl;
  no_hole = refl;
  full_last = refl;
  full_then_empty = refl;
  full_before = refl;
  one_bit_less = refl;
  staged_hole = refl;
  staged_full_last = refl;
  staged_zero_full_last = refl;
  staged_empty_last = refl;
  no_place_left = refl;
  next_stage = refl;
  stage_passed = refl;
  lower_batch = refl;
  own_block = refl;
  no_guarantee = refl;
  no_blocks = refl;
  no_width = refl;
  batch1 = refl;
  first_of_two = refl;
  second_of_two = refl;
  batch2 = refl;
  record_first = refl;
  sum_of_the_sheet = refl;
  sum_of_none = refl;
  bits_of_the_sheet = refl;
  place_after = refl;
  bits_of_none = refl;
  sheet_kept = refl;
}
