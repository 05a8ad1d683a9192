-- The text of an answer that is one number. oracle/README.md: "Questions without a table answer the refusal, their numbers".
use Rattle.std.specs.Prelude.{ℕ, List, ◌++◌, cond, Option, Some, None, Result, Ok, Err, codes, decimal}
use Rattle.std.specs.Option.{ok_or}
use Rattle.words.specs.declared.Errno.{Errno}
use Rattle.words.specs.declared.Errno.TheVariants.{EINVAL}
use Rattle.words.specs.Numbers.{refusal_of, answer_value}
use Rattle.abi.specs.declared.MsgHdr.{MsgHdr}
use Rattle.abi.specs.declared.ShutdownHow.{ShutdownHow}
use Rattle.abi.specs.Header.{message_of, iovec_count_of, control_len_of}
use Rattle.abi.specs.Shutdown.{how_of}
use Rattle.abi.specs.Size.{align_of, len_of, space_of, rights_space_of, rights_count_of}
use Rattle.syscall.specs.Control.{capacity_of}
use Rattle.syscall.specs.Promise.{recv_capacity_of}
use Rattle.utf8.specs.Syntax.{is_utf8}
use Rattle.address.specs.Address.{length_of}
use Rattle.questions.specs.declared.question.Question.{Question}
use Rattle.questions.specs.declared.question.Question.TheVariants.{Align, Len, Space, ScmRightsSpace, Capacity, Utf8, AddressLen, IovecCount, ControlLen, ScmRightsCount, How, RecvmsgCapacity}

-- the refusal, a space and the number
abbrev pub number_text : Result ℕ Errno → List ℕ
number_text answer = decimal (refusal_of answer) ++ (codes " " ++ decimal (answer_value answer))

-- what a question about a header answers, which may be too short to be read
abbrev pub asked_of : (MsgHdr → Result ℕ Errno) → Result MsgHdr Errno → Result ℕ Errno
asked_of ask (Ok header) = ask header
asked_of ask (Err e) = Err e

-- "shutdown 0 read, 1 write, 2 both"
abbrev pub direction_of : Result ShutdownHow Errno → Result ℕ Errno
direction_of (Ok ShutdownHow.Read) = Ok 0
direction_of (Ok ShutdownHow.Write) = Ok 1
direction_of (Ok ShutdownHow.Both) = Ok 2
direction_of (Err e) = Err e

-- the answer to a question that has one number
abbrev pub one_answer : Question → Option (Result ℕ Errno)
one_answer (Align n) = Some (align_of n)
one_answer (Len n) = Some (len_of n)
one_answer (Space n) = Some (space_of n)
one_answer (ScmRightsSpace k) = Some (rights_space_of k)
one_answer (Capacity n) = Some (Ok (capacity_of n))
one_answer (Utf8 bytes) = Some (Ok (cond (is_utf8 bytes.items) 1 0))
one_answer (AddressLen address) = Some (length_of address.items)
one_answer (IovecCount header) = Some (asked_of iovec_count_of (message_of header.items))
one_answer (ControlLen header) = Some (asked_of control_len_of (message_of header.items))
one_answer (ScmRightsCount header n) = Some (ok_or (rights_count_of header n) EINVAL)
one_answer (How how) = Some (direction_of (how_of how))
one_answer (RecvmsgCapacity flags n) = Some (recv_capacity_of flags n)
one_answer _ = None
