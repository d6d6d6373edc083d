-- Where the parts of a bench stand in its words: rows of four numbers and eight words, pairs of rows, and the blocks of a tile
-- and of the home made of them, with no word between them.
use Rattle.std.specs.Prelude.{◌≡◌, ℕ, ◌+◌, ◌*◌, List, ◌∷◌, ◌++◌, length, get_or, take, drop}
use Rattle.numbers.specs.Limits.{words_in_line}
use Rattle.layout.specs.Places.{row_data_place, second_place, tile_noc1_place, tile_noc2_place, tile_noc3_place, tile_size, home_tile_count_place, home_phase_place, home_line_row_place, home_control_row_place, home_to_memory_place, home_from_memory_place, home_size}
use Rattle.layout.specs.declared.rows.Row.{Row}
use Rattle.layout.specs.declared.rows.Pair.{Pair}
use Rattle.layout.specs.declared.rows.TileBlock.{TileBlock}
use Rattle.layout.specs.declared.rows.HomeBlock.{HomeBlock}

-- the words that n tiles need: the home's block and one for each tile
abbrev pub bench_words : ℕ → ℕ
bench_words n = home_size + tile_size * n

-- where tile t's block stands
abbrev pub tile_place : ℕ → ℕ
tile_place t = home_size + tile_size * t

-- A row's four numbers by what the row is (docs/LAYOUT.md): a message;
abbrev pub message_type : Row → ℕ
message_type r = r.n0

abbrev pub message_word : Row → ℕ
message_word r = r.n1

abbrev pub message_state : Row → ℕ
message_state r = r.n2

abbrev pub message_flag : Row → ℕ
message_flag r = r.n3

-- the head of a tile;
abbrev pub head_state : Row → ℕ
head_state r = r.n0

abbrev pub head_waiting : Row → ℕ
head_waiting r = r.n1

abbrev pub head_word : Row → ℕ
head_word r = r.n2

abbrev pub head_value : Row → ℕ
head_value r = r.n3

-- the line of the home;
abbrev pub line_valid : Row → ℕ
line_valid r = r.n0

abbrev pub line_dirty : Row → ℕ
line_dirty r = r.n1

abbrev pub line_directory_number : Row → ℕ
line_directory_number r = r.n2

abbrev pub line_holders : Row → ℕ
line_holders r = r.n3

-- the control row, with the memory's words.
abbrev pub control_last_taken : Row → ℕ
control_last_taken r = r.n0

abbrev pub control_marks : Row → ℕ
control_marks r = r.n1

abbrev pub control_requester : Row → ℕ
control_requester r = r.n2

abbrev pub control_owed : Row → ℕ
control_owed r = r.n3

-- reading, at a place of a list
unfoldable pub row_at : List ℕ → ℕ → Row
row_at l i =
    record { n0 = get_or l i 0; n1 = get_or l (i + 1) 0; n2 = get_or l (i + 2) 0; n3 = get_or l (i + 3) 0; words = take words_in_line (drop (i + row_data_place) l) }

unfoldable pub pair_at : List ℕ → ℕ → Pair
pair_at l i = record { a = row_at l i; b = row_at l (i + second_place) }

unfoldable pub tile_block_at : List ℕ → ℕ → TileBlock
tile_block_at l i = record { head = row_at l i; noc1 = pair_at l (i + tile_noc1_place); noc2 = pair_at l (i + tile_noc2_place); noc3 = pair_at l (i + tile_noc3_place) }

unfoldable pub home_block_at : List ℕ → HomeBlock
home_block_at l = record { count = get_or l home_tile_count_place 0; phase = get_or l home_phase_place 0; line = row_at l home_line_row_place; control = row_at l home_control_row_place; out = pair_at l home_to_memory_place; back = pair_at l home_from_memory_place }

-- the words of each
unfoldable pub row_words : Row → List ℕ
row_words r = r.n0 ∷ r.n1 ∷ r.n2 ∷ r.n3 ∷ r.words

unfoldable pub pair_words : Pair → List ℕ
pair_words p = row_words p.a ++ row_words p.b

unfoldable pub tile_block_words : TileBlock → List ℕ
tile_block_words x = row_words x.head ++ (pair_words x.noc1 ++ (pair_words x.noc2 ++ pair_words x.noc3))

unfoldable pub home_block_words : HomeBlock → List ℕ
home_block_words x = x.count ∷ x.phase ∷ row_words x.line ++ (row_words x.control ++ (pair_words x.out ++ pair_words x.back))

-- the rows of a block hold eight words each
pub record PairFull (p : Pair) : Type 0 where
  pub first : length p.a.words ≡ words_in_line
  pub second : length p.b.words ≡ words_in_line

pub record TileFull (x : TileBlock) : Type 0 where
  pub head_full : length x.head.words ≡ words_in_line
  pub noc1_full : PairFull x.noc1
  pub noc2_full : PairFull x.noc2
  pub noc3_full : PairFull x.noc3

pub record HomeFull (x : HomeBlock) : Type 0 where
  pub line_full : length x.line.words ≡ words_in_line
  pub control_full : length x.control.words ≡ words_in_line
  pub out_full : PairFull x.out
  pub back_full : PairFull x.back
