-- `Build` and `ReadReply`, which the laws are about, are what `build` and `read_reply` ensure in the source; that `Answers` is what
-- `respond` ensures is `respond_answers` of `demands`. Nothing uses this; it is there to be checked.
-- Assumes nothing.
use Prim.Native.Nat.{ℕ}
use Rattle.std.specs.Prelude.{Result}
use Rattle.master.specs.declared.Refusal.{Refusal}
use Rattle.master.specs.declared.Reading.{Reading}
use Rattle.master.specs.Building.{Build}
use Rattle.master.specs.Reading.{ReadReply}
use Rattle.master.proofs.build.Reads as build
use Rattle.master.proofs.read_reply.Reads as read-reply

-- the arguments are the request, its data, and the lent buffer
build_builds : (κs : _) (args : _) (answer : Result ℕ Refusal) (left : _) → build.Post κs args answer left
    → Build args.0 args.1.0.now args.1.1.0.now answer left.1.1.0.now
build_builds κs args answer left post = post

-- the arguments are the request, the reply, and the lent buffer
read_reply_reads : (κs : _) (args : _) (answer : Result Reading Refusal) (left : _) → read-reply.Post κs args answer left
    → ReadReply args.0 args.1.0.now args.1.1.0.now answer left.1.1.0.now
read_reply_reads κs args answer left post = post
