-- A command, with the bytes that it names in place of where they lie in memory.
use Rattle.std.specs.Prelude.{ℕ, ◌<◌, ◌^◌, Bool, List}
use Rattle.blk_model.specs.declared.Command.{Command}
use Rattle.blk_model.specs.declared.Command.TheVariants as command
use Rattle.blk_model.specs.Items.{IsBytes}

-- the commands, with numbers and bytes in the order in which a client names them
pub data Request : Type 0 where
  to_create : ℕ → List ℕ → Request
  to_open : ℕ → List ℕ → Request
  to_read : ℕ → ℕ → ℕ → ℕ → Request
  to_write : ℕ → ℕ → ℕ → Bool → List ℕ → Request
  to_size : ℕ → ℕ → Request
  to_sparse_write : ℕ → ℕ → List ℕ → Request
  to_sparse_read : ℕ → ℕ → ℕ → Request
  to_sparse_range : ℕ → ℕ → ℕ → Request
  to_doom : ℕ → Request
  to_doom_key : List ℕ → Request
  to_close : ℕ → Request
  to_flush : ℕ → Request
  to_list : Request
  to_trim : ℕ → Request
  to_total : Request

-- what a command of the program asks for
abbrev pub request_of : Command → Request
request_of (command.Create handle key) = to_create handle key.now
request_of (command.Open handle key) = to_open handle key.now
request_of (command.Read handle stream offset count) = to_read handle stream offset count
request_of (command.Write handle stream offset cut bytes) = to_write handle stream offset cut bytes.now
request_of (command.Size handle stream) = to_size handle stream
request_of (command.SparseWrite handle offset bytes) = to_sparse_write handle offset bytes.now
request_of (command.SparseRead handle offset count) = to_sparse_read handle offset count
request_of (command.SparseRange handle offset count) = to_sparse_range handle offset count
request_of (command.Doom handle) = to_doom handle
request_of (command.DoomKey key) = to_doom_key key.now
request_of (command.Close handle) = to_close handle
request_of (command.Flush handle) = to_flush handle
request_of command.List = to_list
request_of (command.Trim bytes) = to_trim bytes
request_of command.Total = to_total

-- a handle is a number of two bytes
abbrev pub IsHandle : ℕ → Type 0
IsHandle handle = handle < 2 ^ 16

-- a stream's number is a byte
abbrev pub IsStreamNumber : ℕ → Type 0
IsStreamNumber stream = stream < 2 ^ 8

-- an offset or a count is a number of eight bytes
abbrev pub IsLong : ℕ → Type 0
IsLong number = number < 2 ^ 64

-- a request that a client can make: its numbers are in the ranges of their types, and its keys and data are bytes
abbrev pub IsRequest : Request → Type 0
IsRequest (to_create handle key) = IsHandle handle × IsBytes key
IsRequest (to_open handle key) = IsHandle handle × IsBytes key
IsRequest (to_read handle stream offset count) = IsHandle handle × IsStreamNumber stream × IsLong offset × IsLong count
IsRequest (to_write handle stream offset cut bytes) = IsHandle handle × IsStreamNumber stream × IsLong offset × IsBytes bytes
IsRequest (to_size handle stream) = IsHandle handle × IsStreamNumber stream
IsRequest (to_sparse_write handle offset bytes) = IsHandle handle × IsLong offset × IsBytes bytes
IsRequest (to_sparse_read handle offset count) = IsHandle handle × IsLong offset × IsLong count
IsRequest (to_sparse_range handle offset count) = IsHandle handle × IsLong offset × IsLong count
IsRequest (to_doom handle) = IsHandle handle
IsRequest (to_doom_key key) = IsBytes key
IsRequest (to_close handle) = IsHandle handle
IsRequest (to_flush handle) = IsHandle handle
IsRequest to_list = Unit {0}
IsRequest (to_trim bytes) = IsLong bytes
IsRequest to_total = Unit {0}
