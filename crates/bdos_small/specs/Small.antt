-- The small BDOS: a disk in drive A, a console, and a search that goes on (CP/M 2.2 Operating System Manual, section 5.3, "BDOS
-- Functions").
use Rattle.std.specs.Prelude.{◌≡◌, ℕ, ◌==◌, nat_le, cond, List, Option}
use Rattle.dialogue.specs.declared.request.Request.{Request}
use Rattle.dialogue.specs.declared.request.Reply.{Reply as ReplyTo}
use Rattle.bdos_small.specs.declared.console.Answer.{Answer}
use Rattle.bdos_small.specs.declared.console.Answer.TheVariants.{Reply, InputEnded, NoDrive}
use Rattle.bdos_small.specs.Console.{ConsoleAnswered as ByConsole, console_answer}
use Rattle.bdos_small.specs.Stored.{Stored}
use Rattle.bdos_small.specs.Fcb.{drive_in}
use Rattle.bdos_small.specs.Calls.{fcb_of, takes_fcb}
use Rattle.bdos_small.specs.declared.directory.Search.{Search}
use Rattle.bdos_small.specs.Files.{Searched, Changed, open_file, close_file, search_first, search_next, delete_file, read_sequential, write_sequential, make_file, rename_file, read_random, write_random, file_size, set_random_record}

-- the files of the disk, the input that is left, and the search that goes on
pub record Small : Type 0 where
  pub disk : List Stored
  pub input : List ℕ
  pub search : Option Search

abbrev pub small_of : List Stored → List ℕ → Option Search → Small
small_of disk input found = record { disk = disk; input = input; search = found }

-- what is answered, and what is left
pub record Answered : Type 0 where
  pub answer : Answer
  pub left : Small

abbrev pub with_input : Small → ByConsole → Answered
with_input s c = record { answer = c.answer; left = record { disk = s.disk; input = c.left; search = s.search } }

-- a reply, and what is left
abbrev pub replying : Small → ReplyTo → Answered
replying s y = record { answer = Reply y; left = s }

abbrev pub with_search : Small → Searched → Answered
with_search s r = replying (record { disk = s.disk; input = s.input; search = r.search }) r.reply

abbrev pub with_disk : Small → Changed → Answered
with_disk s c = replying (record { disk = c.disk; input = s.input; search = s.search }) c.reply

-- the functions that name a file by an FCB
abbrev pub file_answer : Small → Request → Answered
file_answer s q =
    cond (q.shape.function == 15) (replying s (open_file s.disk q))
    (cond (q.shape.function == 16) (replying s (close_file s.disk q))
    (cond (q.shape.function == 17) (with_search s (search_first s.disk q))
    (cond (q.shape.function == 19) (with_disk s (delete_file s.disk q))
    (cond (q.shape.function == 20) (replying s (read_sequential s.disk q))
    (cond (q.shape.function == 21) (with_disk s (write_sequential s.disk q))
    (cond (q.shape.function == 22) (with_disk s (make_file s.disk q))
    (cond (q.shape.function == 23) (with_disk s (rename_file s.disk q))
    (cond (q.shape.function == 33) (replying s (read_random s.disk q))
    (cond (q.shape.function == 34) (with_disk s (write_random s.disk q))
    (replying s (file_size s.disk q)))))))))))

-- drives 0 and 1 of an FCB are the disk's, and there is no other
abbrev pub fcb_answer : Small → Request → Answered
fcb_answer s q = cond (nat_le (drive_in (fcb_of q)) 1) (file_answer s q) (record { answer = NoDrive; left = s })

-- the answer to a call and what is left; the functions that are for no file are the console's
abbrev pub small_answer : Small → Request → Answered
small_answer s q =
    cond (takes_fcb q.shape.function)
    (fcb_answer s q)
    (cond (q.shape.function == 18) (with_search s (search_next s.disk s.search q))
    (cond (q.shape.function == 36) (replying s (set_random_record q))
    (with_input s (console_answer s.input q))))

-- any answer but a reply leaves all as it was
abbrev pub ChangesByReply : Answer → Small → Small → Type 0
ChangesByReply (Reply y) before after = Unit {0}
ChangesByReply InputEnded before after = after ≡ before
ChangesByReply NoDrive before after = after ≡ before
