-- Document 01, 'Jobs' and 'The bench': the nine calls, a row each: the tag, which is the call's number everywhere; what it carries;
-- whether it is a delivery; and the call. What depends on a call's number is read off its row, what depends on the call off its role.
use Rattle.std.specs.Prelude.{ℕ, Bool, cond, true, false, List, [], ◌∷◌, eqb}
use Rattle.numbers.specs.Tags.{tag_load, tag_store, tag_evict, tag_taking, tag_to_tile, tag_from_tile, tag_memory_step, tag_memory_ack, tag_home_eviction}
use Rattle.protocol.specs.Parts.{Waiting, for_load, for_store, Call, load, store, evict, taking, to_tile, from_tile, memory_step, memory_ack, home_eviction}

-- what a call carries
pub data Arguments : Type 0 where
  no_argument tile_only tile_and_word tile_word_and_value : Arguments

pub record CallRow : Type 0 where
  pub tag : ℕ
  pub arguments : Arguments
  pub delivery : Bool
  pub call : ℕ → ℕ → ℕ → Call

abbrev pub call_row : ℕ → Arguments → Bool → (ℕ → ℕ → ℕ → Call) → CallRow
call_row tag arguments delivery call = record { tag = tag; arguments = arguments; delivery = delivery; call = call }

-- those at a tile, and the rest
abbrev pub tile_calls_and : List CallRow → List CallRow
tile_calls_and rest =
    call_row tag_load tile_and_word false (λ t w v. load t w)
    ∷ call_row tag_store tile_word_and_value false (λ t w v. store t w v)
    ∷ call_row tag_evict tile_only false (λ t w v. evict t)
    ∷ call_row tag_to_tile tile_only true (λ t w v. to_tile t)
    ∷ rest

abbrev pub tile_calls : List CallRow
tile_calls = tile_calls_and []

-- those at the home and its memory
abbrev pub home_calls : List CallRow
home_calls =
    call_row tag_taking no_argument true (λ t w v. taking)
    ∷ call_row tag_from_tile tile_only true (λ t w v. from_tile t)
    ∷ call_row tag_memory_step no_argument true (λ t w v. memory_step)
    ∷ call_row tag_memory_ack no_argument true (λ t w v. memory_ack)
    ∷ call_row tag_home_eviction no_argument false (λ t w v. home_eviction)
    ∷ []

abbrev pub call_table : List CallRow
call_table = tile_calls_and home_calls

-- does a table have a tag?
abbrev pub has_tag : List CallRow → ℕ → Bool
has_tag [] tag = false
has_tag (r ∷ rs) tag = cond (eqb tag r.tag) true (has_tag rs tag)

-- the call with this tag, tile, word and value; of a tag that the table does not have, the call of its last row
abbrev pub call_from : List CallRow → ℕ → ℕ → ℕ → ℕ → Call
call_from [] tag t w v = home_eviction
call_from (r ∷ []) tag t w v = r.call t w v
call_from (r ∷ s ∷ rs) tag t w v = cond (eqb tag r.tag) (r.call t w v) (call_from (s ∷ rs) tag t w v)

-- the tag of a call
abbrev pub tag_of : Call → ℕ
tag_of (load t w) = tag_load
tag_of (store t w v) = tag_store
tag_of (evict t) = tag_evict
tag_of taking = tag_taking
tag_of (to_tile t) = tag_to_tile
tag_of (from_tile t) = tag_from_tile
tag_of memory_step = tag_memory_step
tag_of memory_ack = tag_memory_ack
tag_of home_eviction = tag_home_eviction

abbrev pub delivery_in : List CallRow → ℕ → Bool
delivery_in [] tag = false
delivery_in (r ∷ rs) tag = cond (eqb tag r.tag) r.delivery (delivery_in rs tag)

-- The deliveries are taking, both tile deliveries, memory step, memory ack.
unfoldable pub is_delivery : Call → Bool
is_delivery c = delivery_in call_table (tag_of c)

-- What a call is in a history: a tile's load or store, with what the tile waits for if it sends its request; a delivery to a tile; the
-- taking; or none of these.
pub data Role : Type 0 where
  accesses : ℕ → Waiting → Role
  delivers_to : ℕ → Role
  takes : Role
  neither : Role

abbrev pub role_of : Call → Role
role_of (load t w) = accesses t (for_load w)
role_of (store t w v) = accesses t (for_store w v)
role_of (evict t) = neither
role_of taking = takes
role_of (to_tile t) = delivers_to t
role_of (from_tile t) = neither
role_of memory_step = neither
role_of memory_ack = neither
role_of home_eviction = neither
