-- Message types (01, 'Flit words': the table's first column).
use Rattle.std.specs.Prelude.{ℕ}

-- no type of the table: a free place of a queue, or no message at all
abbrev pub no_message_type : ℕ
no_message_type = 0

abbrev pub load_req_type : ℕ
load_req_type = 31

abbrev pub store_req_type : ℕ
store_req_type = 2

abbrev pub wb_req_type : ℕ
wb_req_type = 12

abbrev pub store_mem_type : ℕ
store_mem_type = 20

abbrev pub load_mem_type : ℕ
load_mem_type = 19

abbrev pub wbguard_req_type : ℕ
wbguard_req_type = 13

abbrev pub load_fwd_type : ℕ
load_fwd_type = 16

abbrev pub store_fwd_type : ℕ
store_fwd_type = 17

abbrev pub inv_fwd_type : ℕ
inv_fwd_type = 18

abbrev pub load_fwdack_type : ℕ
load_fwdack_type = 21

abbrev pub store_fwdack_type : ℕ
store_fwdack_type = 22

abbrev pub inv_fwdack_type : ℕ
inv_fwdack_type = 23

abbrev pub load_mem_ack_type : ℕ
load_mem_ack_type = 24

abbrev pub store_mem_ack_type : ℕ
store_mem_ack_type = 25

abbrev pub nodata_ack_type : ℕ
nodata_ack_type = 28

abbrev pub data_ack_type : ℕ
data_ack_type = 29
