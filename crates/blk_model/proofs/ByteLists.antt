-- Lists of bytes stay lists of bytes.
use Rattle.std.proofs.Common.{ℕ, zero, suc, ◌+◌, ◌-◌, ◌<◌, Bool, true, false, List, [], ◌++◌, arith, length, take, drop, replicate}
use Rattle.std.proofs.lemmas.List.Elements.{All-nil, All-append, All-take, All-drop, All-replicate}
use Rattle.blk_model.specs.Sizes.{byte_values}
use Rattle.blk_model.specs.Bytes.{overwritten, overwritten_and_cut}
use Rattle.blk_model.specs.Items.{Streams, IsBytes, IsStreams}
use Rattle.blk_model.specs.Effects.{stream_in, streams_with, stream_after}

abbrev IsByte : ℕ → Type 0
IsByte number = number < byte_values

pub no_bytes_are : IsBytes []
no_bytes_are = All-nil IsByte

pub zeros_are : (n : ℕ) → IsBytes (replicate n 0)
zeros_are n = All-replicate IsByte n 0 (omega arith)

pub joined_are : (a b : List ℕ) → IsBytes a → IsBytes b → IsBytes (a ++ b)
joined_are a b = All-append IsByte a b

pub prefix_are : (n : ℕ) (a : List ℕ) → IsBytes a → IsBytes (take n a)
prefix_are n a = All-take IsByte n a

pub rest_are : (n : ℕ) (a : List ℕ) → IsBytes a → IsBytes (drop n a)
rest_are n a = All-drop IsByte n a

pub overwritten_and_cut_are : (old : List ℕ) (place : ℕ) (new : List ℕ) → IsBytes old → IsBytes new → IsBytes (overwritten_and_cut old place new)
overwritten_and_cut_are old place new was is =
    joined_are (take place old ++ replicate (place - length old) 0) new (joined_are (take place old) _ (prefix_are place old was) (zeros_are (place - length old))) is

pub overwritten_are : (old : List ℕ) (place : ℕ) (new : List ℕ) → IsBytes old → IsBytes new → IsBytes (overwritten old place new)
overwritten_are old place new was is =
    joined_are (take place old ++ replicate (place - length old) 0 ++ new) _ (overwritten_and_cut_are old place new was is) (rest_are (place + length new) old was)

pub stream_after_is : (cut : Bool) (old : List ℕ) (offset : ℕ) (bytes : List ℕ) → IsBytes old → IsBytes bytes → IsBytes (stream_after cut old offset bytes)
stream_after_is true old offset bytes was is = overwritten_and_cut_are old offset bytes was is
stream_after_is false old offset bytes was is = overwritten_are old offset bytes was is

pub stream_in_is : (streams : Streams) (stream : ℕ) → IsStreams streams → IsBytes (stream_in streams stream)
stream_in_is streams zero are = are.0
stream_in_is streams (suc zero) are = are.1
stream_in_is streams (suc (suc n)) are = are.2

pub streams_with_are : (streams : Streams) (stream : ℕ) (bytes : List ℕ) → IsStreams streams → IsBytes bytes → IsStreams (streams_with streams stream bytes)
streams_with_are streams zero bytes are is = (is, are.1, are.2)
streams_with_are streams (suc zero) bytes are is = (are.0, is, are.2)
streams_with_are streams (suc (suc n)) bytes are is = (are.0, are.1, is)
