-- How a script line is parsed to a request.
use Rattle.std.specs.Prelude.{◌≡◌, ℕ, ◌≤◌, true, false, ◌==◌, nat_lt, if◌then◌else◌, List, [], ◌∷◌, length, codes, Result, Ok, Err}
use Rattle.std.specs.Str.{bytes_eq}
use Rattle.blk_model.specs.Request.{Request, to_create, to_open, to_read, to_write, to_size, to_sparse_write, to_sparse_read, to_sparse_range, to_doom, to_doom_key, to_close, to_flush, to_list, to_trim, to_total}
use Rattle.blk_script.specs.declared.fault.LineFault.{LineFault}
use Rattle.blk_script.specs.declared.fault.LineFault.TheVariants as fault
use Rattle.blk_script.specs.declared.words.Word.{Word}
use Rattle.blk_script.specs.declared.words.Word.TheVariants as word
use Rattle.blk_script.specs.declared.fields.Fields.{Fields}
use Rattle.blk_script.specs.Fields.{◌>>=◌, fields_left, line_fields, longest_data, number_field, data_field, key_field}
use Rattle.blk_script.specs.Spelling.{data_in, data_text, line_of}

-- a field with the number of a handle (at most 65535 here; which ones name something is checked later)
abbrev pub handle_field : List ℕ → Result ℕ LineFault
handle_field = number_field 65535

-- a field with the number of a stream (at most 255 here; which ones exist is checked later)
abbrev pub stream_field : List ℕ → Result ℕ LineFault
stream_field = number_field 255

-- a field with a 64-bit number
abbrev pub count_field : List ℕ → Result ℕ LineFault
count_field = number_field 18446744073709551615

-- the request, if no field comes after the command's word
abbrev pub no_fields : Request → List (List ℕ) → Result Request LineFault
no_fields request [] = Ok request
no_fields request (field ∷ fields) = Err fault.FieldCount

-- the request that one field gives, or FieldCount if there isn't exactly one
abbrev pub one_field : (List ℕ → Result Request LineFault) → List (List ℕ) → Result Request LineFault
one_field read (a ∷ []) = read a
one_field read _ = Err fault.FieldCount

-- the request that two fields give, or FieldCount if there aren't exactly two
abbrev pub two_fields : (List ℕ → List ℕ → Result Request LineFault) → List (List ℕ) → Result Request LineFault
two_fields read (a ∷ b ∷ []) = read a b
two_fields read _ = Err fault.FieldCount

-- the request that three fields give, or FieldCount if there aren't exactly three
abbrev pub three_fields : (List ℕ → List ℕ → List ℕ → Result Request LineFault) → List (List ℕ) → Result Request LineFault
three_fields read (a ∷ b ∷ c ∷ []) = read a b c
three_fields read _ = Err fault.FieldCount

-- the request that four fields give, or FieldCount if there aren't exactly four
abbrev pub four_fields : (List ℕ → List ℕ → List ℕ → List ℕ → Result Request LineFault) → List (List ℕ) → Result Request LineFault
four_fields read (a ∷ b ∷ c ∷ d ∷ []) = read a b c d
four_fields read _ = Err fault.FieldCount

-- a request with a handle and a key. Fields are parsed from the left, and the first that fails gives the error
abbrev pub handle_and_key : (ℕ → List ℕ → Request) → List ℕ → List ℕ → Result Request LineFault
handle_and_key make h k = do
  handle ← handle_field h
  key ← key_field k
  Ok (make handle key)

-- a request with a handle alone
abbrev pub handle_alone : (ℕ → Request) → List ℕ → Result Request LineFault
handle_alone make h = do
  handle ← handle_field h
  Ok (make handle)

-- a request with a key alone
abbrev pub key_alone : (List ℕ → Request) → List ℕ → Result Request LineFault
key_alone make k = do
  key ← key_field k
  Ok (make key)

-- a request with a number alone
abbrev pub number_alone : (ℕ → Request) → List ℕ → Result Request LineFault
number_alone make n = do
  number ← count_field n
  Ok (make number)

-- a request with a handle and a stream
abbrev pub handle_and_stream : (ℕ → ℕ → Request) → List ℕ → List ℕ → Result Request LineFault
handle_and_stream make h s = do
  handle ← handle_field h
  stream ← stream_field s
  Ok (make handle stream)

-- a request with a handle, an offset and a count
abbrev pub handle_and_range : (ℕ → ℕ → ℕ → Request) → List ℕ → List ℕ → List ℕ → Result Request LineFault
handle_and_range make h o c = do
  handle ← handle_field h
  offset ← count_field o
  count ← count_field c
  Ok (make handle offset count)

-- a request with a handle, an offset and data
abbrev pub handle_and_data : (ℕ → ℕ → List ℕ → Request) → List ℕ → List ℕ → List ℕ → Result Request LineFault
handle_and_data make h o d = do
  handle ← handle_field h
  offset ← count_field o
  bytes ← data_field d
  Ok (make handle offset bytes)

-- a request with a handle, a stream, an offset and a count
abbrev pub stream_and_range : (ℕ → ℕ → ℕ → ℕ → Request) → List ℕ → List ℕ → List ℕ → List ℕ → Result Request LineFault
stream_and_range make h s o c = do
  handle ← handle_field h
  stream ← stream_field s
  offset ← count_field o
  count ← count_field c
  Ok (make handle stream offset count)

-- a request with a handle, a stream, an offset and data
abbrev pub stream_and_data : (ℕ → ℕ → ℕ → List ℕ → Request) → List ℕ → List ℕ → List ℕ → List ℕ → Result Request LineFault
stream_and_data make h s o d = do
  handle ← handle_field h
  stream ← stream_field s
  offset ← count_field o
  bytes ← data_field d
  Ok (make handle stream offset bytes)

-- the request that the fields left of a line give, if there are three, parsed by `read`
abbrev pub three_left : (List ℕ → List ℕ → List ℕ → Result Request LineFault) → Fields → Result Request LineFault
three_left read fields = three_fields read (fields_left fields)

-- the request that the fields left of a line give, if there are four, parsed by `read`
abbrev pub four_left : (List ℕ → List ℕ → List ℕ → List ℕ → Result Request LineFault) → Fields → Result Request LineFault
four_left read fields = four_fields read (fields_left fields)

-- how the fields after a command's word are parsed
unfoldable pub reading : Word → List (List ℕ) → Result Request LineFault
reading word.Create = two_fields (handle_and_key to_create)
reading word.Open = two_fields (handle_and_key to_open)
reading word.Read = four_fields (stream_and_range to_read)
reading word.Write = four_fields (stream_and_data (λ h s o d. to_write h s o false d))
reading word.Cut = four_fields (stream_and_data (λ h s o d. to_write h s o true d))
reading word.Size = two_fields (handle_and_stream to_size)
reading word.SparseWrite = three_fields (handle_and_data to_sparse_write)
reading word.SparseRead = three_fields (handle_and_range to_sparse_read)
reading word.SparseRange = three_fields (handle_and_range to_sparse_range)
reading word.Doom = one_field (handle_alone to_doom)
reading word.Close = one_field (handle_alone to_close)
reading word.Flush = one_field (handle_alone to_flush)
reading word.DoomKey = one_field (key_alone to_doom_key)
reading word.Trim = one_field (number_alone to_trim)
reading word.List = no_fields to_list
reading word.Total = no_fields to_total

-- the words of the language as they are written, each with how the fields after it are parsed
unfoldable pub command_words : List (List ℕ × (List (List ℕ) → Result Request LineFault))
command_words =
    (codes "create", reading word.Create)
    ∷ (codes "open", reading word.Open)
    ∷ (codes "read", reading word.Read)
    ∷ (codes "write", reading word.Write)
    ∷ (codes "cut", reading word.Cut)
    ∷ (codes "size", reading word.Size)
    ∷ (codes "swrite", reading word.SparseWrite)
    ∷ (codes "sread", reading word.SparseRead)
    ∷ (codes "srange", reading word.SparseRange)
    ∷ (codes "doom", reading word.Doom)
    ∷ (codes "close", reading word.Close)
    ∷ (codes "flush", reading word.Flush)
    ∷ (codes "doomkey", reading word.DoomKey)
    ∷ (codes "trim", reading word.Trim)
    ∷ (codes "list", reading word.List)
    ∷ (codes "total", reading word.Total)
    ∷ []

-- the request that a word and its fields give, by the first entry of the table with that word
abbrev pub by_word : List ℕ → List (List ℕ) → List (List ℕ × (List (List ℕ) → Result Request LineFault)) → Result Request LineFault
by_word word fields [] = Err fault.UnknownWord
by_word word fields (line ∷ table) = if bytes_eq word line.0 then line.1 fields else by_word word fields table

-- the request that the fields of a line give
abbrev pub by_fields : List (List ℕ) → Result Request LineFault
by_fields [] = Err fault.UnknownWord
by_fields (word ∷ fields) = by_word word fields command_words

-- the most bytes of a line, without its end
abbrev pub longest_line : ℕ
longest_line = 2200000

-- the request that a line gives, or its parse error
unfoldable pub read_text : List ℕ → Result Request LineFault
read_text line =
    if nat_lt longest_line (length line) then Err fault.TooLong
    else if length line == 0 then Err fault.Empty
    else by_fields (line_fields line)

-- the line of a request, if it and its data are not too long, is parsed to the same request
abbrev pub IsReadAsPrinted : Request → Type 0
IsReadAsPrinted request = length (line_of request) ≤ longest_line → length (data_text (data_in request)) ≤ longest_data → read_text (line_of request) ≡ Ok request
