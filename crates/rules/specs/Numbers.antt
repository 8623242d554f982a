-- The marked numbers of document 01 ("Numbers on both sides"): one table under one proof. Assumes nothing.
use Rattle.std.specs.Prelude.{◌≡◌, refl, List, [], ◌∷◌, ◌++◌, ℕ, replicate}
use Rattle.std.proofs.Common.{ap}
use Rattle.std.proofs.Math.Decide.{ℕ_discrete, dec_le, dec_lt}
use Rattle.rules.specs.Search.{pick, all?, some?, first}
use Rattle.rules.specs.Cells.{first_above, same?, block, store}
use Rattle.rules.specs.Block.{active, ramp, cycle, state_of}
use Rattle.rules.specs.Plain as P
use Rattle.rules.specs.Stage.{absent?, names?, stage_ok?, change_within}
use Rattle.rules.specs.Staged as S
use Rattle.rules.specs.Batches as B
use Rattle.rules.specs.Accept.{most_cells, refused, accept_plain, accept_staged, stages_of, index_width, accept, same_settings?, genuine?, guarantee}
use Rattle.rules.specs.Calls.{setup_of, settings_call, change_call, read_call, sound?, read_bit, change_sheet}
use Rattle.rules.specs.declared.Settings.{Settings}
use Rattle.rules.specs.declared.Answer.TheVariants.{Done, BadShape, BadSheet}

-- k = 4, L = 2: a sheet of 16 cells that has the block b first and empty blocks after it
abbrev plain16 : Settings
plain16 = accept 0 4 2 16

abbrev sheet_with : List ℕ → List ℕ
sheet_with b = b ++ replicate 12 0

-- the block is at the step of bit i's cycle with weight w; its value is the parity of w
abbrev At : List ℕ → ℕ → ℕ → Type 0
At b i w = state_of 4 2 b ≡ active i w

-- the change of bit i makes of the block b the block c
abbrev Next : List ℕ → ℕ → List ℕ → Type 0
Next b i c = change_call plain16 (sheet_with b) i ≡ record { answer = Done 1; sheet = sheet_with c }

-- the sheet reads so, and how many bits are 1
abbrev Reads : List ℕ → ℕ → List ℕ → Type 0
Reads b ones bits = read_call plain16 (sheet_with b) (9 ∷ 9 ∷ 9 ∷ 9 ∷ 9 ∷ []) ≡ record { answer = Done ones; places = bits ++ (9 ∷ []) }

-- a change of bit i on the sheet with this block is refused
abbrev ChangeRefused : List ℕ → ℕ → Type 0
ChangeRefused b i = change_call plain16 (sheet_with b) i ≡ record { answer = BadSheet; sheet = sheet_with b }

-- the sheet is refused, by a reading and by a change of any bit
pub record Broken (b : List ℕ) : Type 0 where
  pub reading : read_call plain16 (sheet_with b) (9 ∷ 9 ∷ 9 ∷ 9 ∷ []) ≡ record { answer = BadSheet; places = 9 ∷ 9 ∷ 9 ∷ 9 ∷ [] }
  pub change0 : ChangeRefused b 0
  pub change1 : ChangeRefused b 1
  pub change2 : ChangeRefused b 2
  pub change3 : ChangeRefused b 3

-- settings k, L, n of a kind are refused
abbrev Refused : ℕ → ℕ → ℕ → ℕ → Type 0
Refused kind k L n = settings_call kind k L n ≡ record { answer = BadShape; settings = refused }

-- staged, k = 4, L = 2, n = 28: m blocks, and the index blocks of batch 1
abbrev staged28 : Settings
staged28 = accept 1 4 2 28

-- the change of bit i on the staged sheet raises v levels and makes ys of xs
abbrev Moves : List ℕ → ℕ → ℕ → List ℕ → Type 0
Moves xs i v ys = change_call staged28 xs i ≡ record { answer = Done v; sheet = ys }

-- blocks 1000 0100 0010 2222, index cells 0
abbrev sheet₀ : List ℕ
sheet₀ = 1 ∷ 0 ∷ 0 ∷ 0 ∷ 0 ∷ 1 ∷ 0 ∷ 0 ∷ 0 ∷ 0 ∷ 1 ∷ 0 ∷ 2 ∷ 2 ∷ 2 ∷ 2 ∷ replicate 12 0

-- blocks 1010 0110 0010 2222, index blocks 01 02 10 11 00 00
abbrev sheet₁ : List ℕ
sheet₁ = 1 ∷ 0 ∷ 1 ∷ 0 ∷ 0 ∷ 1 ∷ 1 ∷ 0 ∷ 0 ∷ 0 ∷ 1 ∷ 0 ∷ 2 ∷ 2 ∷ 2 ∷ 2 ∷ 0 ∷ 1 ∷ 0 ∷ 2 ∷ 1 ∷ 0 ∷ 1 ∷ 1 ∷ 0 ∷ 0 ∷ 0 ∷ 0 ∷ []

-- bit 1's block at 20, 21 and 22; the third change raises its index block to 22, and the fourth begins the fifth parity block
abbrev sheet₂ : List ℕ
sheet₂ = 1 ∷ 0 ∷ 2 ∷ 0 ∷ 0 ∷ 1 ∷ 1 ∷ 0 ∷ 0 ∷ 0 ∷ 1 ∷ 0 ∷ 2 ∷ 2 ∷ 2 ∷ 2 ∷ 0 ∷ 1 ∷ 0 ∷ 2 ∷ 1 ∷ 0 ∷ 1 ∷ 1 ∷ 0 ∷ 0 ∷ 0 ∷ 0 ∷ []

abbrev sheet₃ : List ℕ
sheet₃ = 1 ∷ 0 ∷ 2 ∷ 1 ∷ 0 ∷ 1 ∷ 1 ∷ 0 ∷ 0 ∷ 0 ∷ 1 ∷ 0 ∷ 2 ∷ 2 ∷ 2 ∷ 2 ∷ 0 ∷ 1 ∷ 0 ∷ 2 ∷ 1 ∷ 0 ∷ 1 ∷ 1 ∷ 0 ∷ 0 ∷ 0 ∷ 0 ∷ []

abbrev sheet₄ : List ℕ
sheet₄ = 1 ∷ 0 ∷ 2 ∷ 2 ∷ 0 ∷ 1 ∷ 1 ∷ 0 ∷ 0 ∷ 0 ∷ 1 ∷ 0 ∷ 2 ∷ 2 ∷ 2 ∷ 2 ∷ 0 ∷ 1 ∷ 2 ∷ 2 ∷ 1 ∷ 0 ∷ 1 ∷ 1 ∷ 0 ∷ 0 ∷ 0 ∷ 0 ∷ []

abbrev sheet₅ : List ℕ
sheet₅ = 1 ∷ 0 ∷ 2 ∷ 2 ∷ 0 ∷ 1 ∷ 1 ∷ 0 ∷ 1 ∷ 0 ∷ 1 ∷ 0 ∷ 2 ∷ 2 ∷ 2 ∷ 2 ∷ 0 ∷ 1 ∷ 2 ∷ 2 ∷ 1 ∷ 0 ∷ 1 ∷ 1 ∷ 0 ∷ 2 ∷ 0 ∷ 0 ∷ []

-- every marked line of 01, in its order
pub record Marked : Type 0 where
  pub at2221 : At (2 ∷ 2 ∷ 2 ∷ 1 ∷ []) 0 7
  pub reads2221 : Reads (2 ∷ 2 ∷ 2 ∷ 1 ∷ []) 1 (1 ∷ 0 ∷ 0 ∷ 0 ∷ [])
  pub next2221 : Next (2 ∷ 2 ∷ 2 ∷ 1 ∷ []) 0 (2 ∷ 2 ∷ 2 ∷ 2 ∷ [])
  pub at1222 : At (1 ∷ 2 ∷ 2 ∷ 2 ∷ []) 1 7
  pub reads1222 : Reads (1 ∷ 2 ∷ 2 ∷ 2 ∷ []) 1 (0 ∷ 1 ∷ 0 ∷ 0 ∷ [])
  pub at0220 : At (0 ∷ 2 ∷ 2 ∷ 0 ∷ []) 1 4
  pub reads0220 : Reads (0 ∷ 2 ∷ 2 ∷ 0 ∷ []) 0 (0 ∷ 0 ∷ 0 ∷ 0 ∷ [])
  pub next0220 : Next (0 ∷ 2 ∷ 2 ∷ 0 ∷ []) 1 (0 ∷ 2 ∷ 2 ∷ 1 ∷ [])
  pub at2022 : At (2 ∷ 0 ∷ 2 ∷ 2 ∷ []) 2 6
  pub reads2022 : Reads (2 ∷ 0 ∷ 2 ∷ 2 ∷ []) 0 (0 ∷ 0 ∷ 0 ∷ 0 ∷ [])
  pub next2022 : Next (2 ∷ 0 ∷ 2 ∷ 2 ∷ []) 2 (2 ∷ 1 ∷ 2 ∷ 2 ∷ [])
  pub at2002 : At (2 ∷ 0 ∷ 0 ∷ 2 ∷ []) 3 4
  pub next2002 : Next (2 ∷ 0 ∷ 0 ∷ 2 ∷ []) 3 (2 ∷ 1 ∷ 0 ∷ 2 ∷ [])
  pub broken1100 : Broken (1 ∷ 1 ∷ 0 ∷ 0 ∷ [])
  pub broken2020 : Broken (2 ∷ 0 ∷ 2 ∷ 0 ∷ [])
  pub broken1111 : Broken (1 ∷ 1 ∷ 1 ∷ 1 ∷ [])
  pub plain4 : settings_call 0 2 1 4 ≡ record { answer = Done 3; settings = record { kind = 0; k = 2; top = 1; n = 4; m = 2; s = 0; w = 0 } }
  pub plain3 : Refused 0 2 1 3
  pub odd : (n : ℕ) → Refused 0 3 1 n
  pub even : settings_call 0 3 2 9 ≡ record { answer = Done 8; settings = record { kind = 0; k = 3; top = 2; n = 9; m = 3; s = 0; w = 0 } }
  pub twenty_eight : settings_call 1 4 2 28 ≡ record { answer = Done 17; settings = record { kind = 1; k = 4; top = 2; n = 28; m = 4; s = 2; w = 2 } }
  pub width : index_width 2 4 ≡ 2
  pub index_cells : B.index_cells staged28.s staged28.w ≡ 12
  pub twenty_seven : Refused 1 4 2 27
  pub move : Moves sheet₀ 3 8 sheet₁
  pub all_ones : read_call staged28 sheet₁ (9 ∷ 9 ∷ 9 ∷ 9 ∷ []) ≡ record { answer = Done 4; places = 1 ∷ 1 ∷ 1 ∷ 1 ∷ [] }
  pub bit1first : Moves sheet₁ 1 1 sheet₂
  pub bit1second : Moves sheet₂ 1 1 sheet₃
  pub bit1third : Moves sheet₃ 1 3 sheet₄
  pub bit1fourth : Moves sheet₄ 1 3 sheet₅

-- where both are the same, so is the pick
pick_same : {A B : Type 0} (d : Dec A) (x : B) → pick d x x ≡ x
pick_same (yes h) x = refl
pick_same (no h) x = refl

-- kL is odd for k = 3 and L = 1, whatever n
odd_refused : (n : ℕ) → Refused 0 3 1 n
unfolding settings_call accept_plain ℕ_discrete dec_le dec_lt
odd_refused n = ap setup_of (pick_same (dec_le n most_cells) refused)

-- every number is what the definitions compute
pub marked : Marked
unfolding settings_call change_call read_call sound? read_bit change_sheet genuine? same_settings? guarantee accept_plain accept_staged stages_of index_width first_above
    P.sound? P.blocks_ok? P.packed? P.read P.change P.plan P.bit_of P.states S.read S.change S.read_cells S.change_cells S.sheet_ok? B.sound? B.decode B.batch B.entry_of B.number B.digits
    stage_ok? names? absent? change_within all? some? first same? block store state_of cycle ramp ℕ_discrete dec_le dec_lt
marked = record {
  at2221 = refl;
  reads2221 = refl;
  next2221 = refl;
  at1222 = refl;
  reads1222 = refl;
  at0220 = refl;
  reads0220 = refl;
  next0220 = refl;
  at2022 = refl;
  reads2022 = refl;
  next2022 = refl;
  at2002 = refl;
  next2002 = refl;
  broken1100 = record { reading = refl; change0 = refl; change1 = refl; change2 = refl; change3 = refl };
  broken2020 = record { reading = refl; change0 = refl; change1 = refl; change2 = refl; change3 = refl };
  broken1111 = record { reading = refl; change0 = refl; change1 = refl; change2 = refl; change3 = refl };
  plain4 = refl;
  plain3 = refl;
  odd = odd_refused;
  even = refl;
  twenty_eight = refl;
  width = refl;
  index_cells = refl;
  twenty_seven = refl;
  move = refl;
  all_ones = refl;
  bit1first = refl;
  bit1second = refl;
  bit1third = refl;
  bit1fourth = refl;
}
