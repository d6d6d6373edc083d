-- 01's job, and a job for each refusal and for each pair of tests that fail together, computed. Assumes nothing.
use Prim.Native.Nat.{ℕ, ◌/◌, ◌%◌, ◌≤◌, ◌<◌}
use mathlib.Core.Path.{◌≡◌, refl}
use mathlib.Core.Bool.{true, false}
use mathlib.Core.List.{List, [], ◌∷◌, ◌++◌, map}
use lib.ListN.{length, replicate}
use borrow.Author.Tests.{lt-ltb, le-ltb}
use Rattle.job_format.specs.Bytes.{big_at}
use Rattle.job_format.specs.Fields.{is_tag, value_length, tag_in_place, good_value, first_failed, field_refusal}
use Rattle.job_format.specs.Check.{job_accepted, job_refused, check_end, check_fields, check_job}
use Rattle.job_format.specs.Job.{CallNumbers, tile_count_of, line_address_of, memory_word_of, memory_words_of, argument_at, call_numbers_at, calls_from, calls_of}

-- ---- bytes and tags

big_endian : big_at 3 (9 ∷ 1 ∷ 2 ∷ 3 ∷ []) 1 ≡ 0x010203
unfolding big_at
big_endian = refl

tags : map is_tag (0 ∷ 1 ∷ 3 ∷ 4 ∷ 15 ∷ 16 ∷ 24 ∷ 25 ∷ []) ≡ false ∷ true ∷ true ∷ false ∷ false ∷ true ∷ true ∷ false ∷ []
unfolding is_tag
tags = refl

lengths : map value_length (1 ∷ 2 ∷ 3 ∷ 16 ∷ 17 ∷ 18 ∷ 19 ∷ 20 ∷ 21 ∷ 22 ∷ 23 ∷ 24 ∷ []) ≡ 1 ∷ 6 ∷ 64 ∷ 2 ∷ 10 ∷ 1 ∷ 0 ∷ 1 ∷ 1 ∷ 0 ∷ 0 ∷ 0 ∷ []
unfolding value_length
lengths = refl

-- ---- 01's job: one tile, line 0x80001040, memory 7 then zeros, calls 16 (0,0), 19, 22, 23, 20 (0); and a store

abbrev field : ℕ → List ℕ → List ℕ
field tag value = tag ∷ length value / 256 ∷ length value % 256 ∷ value

abbrev tile_count : List ℕ
tile_count = field 1 (1 ∷ [])

abbrev line_address : List ℕ
line_address = field 2 (0 ∷ 0 ∷ 0x80 ∷ 0 ∷ 0x10 ∷ 0x40 ∷ [])

abbrev header : List ℕ
header = tile_count ++ line_address ++ field 3 (replicate 7 0 ++ (7 ∷ []) ++ replicate 56 0)

abbrev job : List ℕ
job = header ++ field 16 (0 ∷ 0 ∷ []) ++ field 19 [] ++ field 22 [] ++ field 23 [] ++ field 20 (0 ∷ [])

abbrev storing : List ℕ
storing = header ++ field 17 (5 ∷ 6 ∷ 1 ∷ 2 ∷ 3 ∷ 4 ∷ 5 ∷ 6 ∷ 7 ∷ 8 ∷ [])

job_accepted_lem : check_job job ≡ job_accepted
unfolding check_job check_fields field_refusal first_failed is_tag value_length tag_in_place good_value big_at check_end
job_accepted_lem = refl

job_header : ◌≡◌ {A = List ℕ} (tile_count_of job ∷ line_address_of job ∷ memory_words_of job) (1 ∷ 0x80001040 ∷ 7 ∷ replicate 7 0)
unfolding tile_count_of line_address_of memory_words_of memory_word_of big_at
job_header = refl

abbrev call : ℕ → ℕ → ℕ → ℕ → CallNumbers
call tag tile word value = record { tag = tag; tile = tile; word = word; value = value }

job_calls : calls_of job ≡ call 16 0 0 0 ∷ call 19 0 0 0 ∷ call 22 0 0 0 ∷ call 23 0 0 0 ∷ call 20 0 0 0 ∷ []
unfolding calls_of calls_from call_numbers_at argument_at value_length big_at
job_calls = refl

store_call : calls_of storing ≡ call 17 5 6 0x0102030405060708 ∷ []
unfolding calls_of calls_from call_numbers_at argument_at value_length big_at
store_call = refl

-- ---- refused: each number, and for each test a job that fails a later one too

-- 25 before all others, and 65,536 bytes are not too long
too_long : (job : List ℕ) → 65536 < length job → check_job job ≡ job_refused 25 65536
unfolding check_job
too_long job h = rw (lt-ltb 65536 (length job) h)

not_too_long : (job : List ℕ) → length job ≤ 65536 → check_job job ≡ check_fields (length job) job 0 0
unfolding check_job
not_too_long job h = rw (le-ltb 65536 (length job) h)

-- 20 head, 21, 22, 20 value, 23, 24; a missing header field at the job's end
refused :
    (check_job (1 ∷ 0 ∷ []) ≡ job_refused 20 0) × (check_job (field 4 []) ≡ job_refused 21 0) × (check_job (field 1 (1 ∷ 1 ∷ [])) ≡ job_refused 22 0)
    × (check_job (1 ∷ 0 ∷ 1 ∷ []) ≡ job_refused 20 0) × (check_job line_address ≡ job_refused 23 0) × (check_job (field 1 (0 ∷ [])) ≡ job_refused 24 0)
    × (check_job (field 1 (65 ∷ [])) ≡ job_refused 24 0) × (check_job (tile_count ++ field 2 (0 ∷ 0 ∷ 0 ∷ 0 ∷ 0 ∷ 32 ∷ [])) ≡ job_refused 24 4)
    × (check_job (tile_count ++ line_address) ≡ job_refused 23 13) × (check_job (header ++ tile_count) ≡ job_refused 23 80)
unfolding check_job check_fields field_refusal first_failed is_tag value_length tag_in_place good_value big_at check_end
refused = (refl, refl, refl, refl, refl, refl, refl, refl, refl, refl)

-- where two tests fail: 20 head before 21, 21 before 22, 22 before 20 value, 20 value before 23, 23 before 24; and the first bad field
first_counts :
    (check_job (4 ∷ []) ≡ job_refused 20 0) × (check_job (4 ∷ 0 ∷ 9 ∷ []) ≡ job_refused 21 0) × (check_job (1 ∷ 0 ∷ 2 ∷ []) ≡ job_refused 22 0)
    × (check_job (2 ∷ 0 ∷ 6 ∷ []) ≡ job_refused 20 0) × (check_job (field 2 (0 ∷ 0 ∷ 0 ∷ 0 ∷ 0 ∷ 1 ∷ [])) ≡ job_refused 23 0)
    × (check_job (field 1 (0 ∷ []) ++ (4 ∷ [])) ≡ job_refused 24 0)
unfolding check_job check_fields field_refusal first_failed is_tag value_length tag_in_place good_value big_at check_end
first_counts = (refl, refl, refl, refl, refl, refl)
