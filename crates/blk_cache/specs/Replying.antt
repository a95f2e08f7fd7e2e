-- The reply of a command, as it is printed once the command is done and has its completion marker.
use Rattle.std.specs.Prelude.{◌≡◌, ℕ, List, [], ◌++◌}
use Rattle.std.specs.List.{flat_map}
use Rattle.spec_image.specs.Image.{Image}
use Rattle.spec_image.specs.Told.{Told}
use Rattle.blk_model.specs.Bytes.{bytes_from}
use Rattle.blk_model.specs.Effects.{object_of, stream_of}
use Rattle.blk_model.specs.Holding.{rows}
use Rattle.blk_model.specs.Reply.{answer_of, answered, gave}
use Rattle.blk_model.specs.Request.{Request, to_read, to_sparse_read, request_of}
use Rattle.blk_model.specs.declared.Command.{Command}
use Rattle.blk_model.specs.Sparse.{sparse_bytes}
use Rattle.blk_model.specs.State.{State}
use Rattle.blk_model.specs.Step.{step}
use Rattle.blk_model.specs.declared.Answer.{Answer}
use Rattle.blk_model.specs.declared.Answer.TheVariants as answer
use Rattle.blk_script.specs.Reply.{reply_text, row_line}
use Rattle.law_state.specs.Commands.{ForKept}
use Rattle.blk_cache.specs.declared.cache.Cache.{Cache}
use Rattle.blk_cache.specs.CacheKeeping.{HoldsState}

-- the printed line of the bytes that a Read or a SparseRead gives, by the state after it
abbrev pub bytes_text : Request → State → List ℕ
bytes_text (to_read handle stream offset count) state = reply_text (gave (bytes_from (stream_of (object_of state handle) stream) offset count))
bytes_text (to_sparse_read handle offset count) state = reply_text (gave (sparse_bytes (object_of state handle) offset count))
bytes_text _ state = []

-- the printed rows of a state, and then the line of an answer
abbrev pub rows_text : Answer → State → List ℕ
rows_text given state = flat_map row_line (rows state) ++ reply_text (answered given)

-- the printed reply with an answer, by the state after the command: a line of bytes, the rows of a List with their end, or the line of the answer
abbrev pub text_of_reply : Request → Answer → State → List ℕ
text_of_reply request (answer.Bytes n) state = bytes_text request state
text_of_reply request (answer.Listed n) state = rows_text (answer.Listed n) state
text_of_reply request given state = reply_text (answered given)

-- the state is one after the request, by the model, with this answer
pub record IsStateAfter (request : Request) (given : Answer) (state : State) : Type 0 where
  pub before : State
  pub moment : ℕ
  pub given_is : given ≡ answer_of (step before moment request).reply
  pub state_is : state ≡ (step before moment request).state

-- P holds of the printed reply, for each state that the cache keeps and that is one after the request with this answer
abbrev pub ForReply : Cache → Told → Request → Answer → (List ℕ → Type 0) → Type 0
ForReply cache told request given P = ForKept (HoldsState cache) told (λ state. IsStateAfter request given state → P (text_of_reply request given state))

-- P holds of the line of bytes that the request reads, for each state that the cache keeps and that is one after it with `number` bytes
abbrev pub ForBytes : Cache → Told → Request → (number : ℕ) → (List ℕ → Type 0) → Type 0
ForBytes cache told request number P = ForKept (HoldsState cache) told (λ state. IsStateAfter request (answer.Bytes number) state → P (bytes_text request state))

-- P holds of the printed rows and the line of the answer, for each state that the cache keeps
abbrev pub ForRows : Cache → Told → Answer → (List ℕ → Type 0) → Type 0
ForRows cache told given P = ForKept (HoldsState cache) told (λ state. P (rows_text given state))

-- P holds of the printed rows alone, for each state that the cache keeps
abbrev pub ForRowLines : Cache → Told → (List ℕ → Type 0) → Type 0
ForRowLines cache told P = ForKept (HoldsState cache) told (λ state. P (flat_map row_line (rows state)))

-- P holds of the printed reply of the command, for each state that the cache keeps and that is one after it with this answer
abbrev pub ForReplyTo : Cache → Told → Command → Answer → (List ℕ → Type 0) → Type 0
ForReplyTo cache told command given P = ForKept (HoldsState cache) told (λ state. IsStateAfter (request_of command) given state → P (text_of_reply (request_of command) given state))

-- P holds of the line of bytes that the command reads, for each state that the cache keeps and that is one after it with `number` bytes
abbrev pub ForBytesOf : Cache → Told → Command → (number : ℕ) → (List ℕ → Type 0) → Type 0
ForBytesOf cache told command number P = ForKept (HoldsState cache) told (λ state. IsStateAfter (request_of command) (answer.Bytes number) state → P (bytes_text (request_of command) state))

-- the cache keeps some state that is one after the request with this answer
pub record KeepsAfter (cache : Cache) (request : Request) (given : Answer) (image : Image) : Type 0 where
  pub state : State
  pub kept : HoldsState cache state image
  pub after : IsStateAfter request given state
