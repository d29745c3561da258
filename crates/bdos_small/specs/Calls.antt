-- What a call of the system brings, and what its replies write.
use Rattle.std.specs.Prelude.{ℕ, ◌==◌, Bool, List, [], ◌∷◌, drop, Option, Some, None, slice_get}
use Rattle.std.specs.List.{list_any}
use Rattle.dialogue.specs.declared.blocks.Block.{Block}
use Rattle.dialogue.specs.declared.request.Reply.{Reply}
use Rattle.dialogue.specs.declared.request.Request.{Request}
use Rattle.bdos_small.specs.Console.{place_in}

-- the bytes of the k-th block that a call reads
abbrev pub bytes_of_block : Option Block → List ℕ
bytes_of_block None = []
bytes_of_block (Some b) = b.bytes

abbrev pub block_read : ℕ → Request → List ℕ
block_read k q = bytes_of_block (slice_get q.blocks k)

-- the FCB: the first block that a call reads
abbrev pub fcb_of : Request → List ℕ
fcb_of q = block_read 0 q

-- where the first and the second range begin that a call may write
abbrev pub first_place : Request → ℕ
first_place q = place_in q.shape.writes

abbrev pub second_place : Request → ℕ
second_place q = place_in (drop 1 q.shape.writes)

-- replies that write nothing, the first range, or both
abbrev pub telling : ℕ → Reply
telling n = record { answer = n; writes = [] }

abbrev pub reply_writing : Request → ℕ → List ℕ → Reply
reply_writing q n bytes = record { answer = n; writes = record { at = first_place q; bytes = bytes } ∷ [] }

abbrev pub writing_both : Request → ℕ → List ℕ → List ℕ → Reply
writing_both q n bytes others =
    record {
      answer = n;
      writes = record { at = first_place q; bytes = bytes } ∷ (record { at = second_place q; bytes = others } ∷ []);
    }

-- the answers of the functions of files: done (0), or not (0FFH)
abbrev pub done : Reply
done = telling 0

abbrev pub not_found : Reply
not_found = telling 0xFF

-- the functions that name a file by an FCB, whose drive byte is looked at
abbrev pub takes_fcb : ℕ → Bool
takes_fcb f = list_any (λ k. f == k) (15 ∷ (16 ∷ (17 ∷ (19 ∷ (20 ∷ (21 ∷ (22 ∷ (23 ∷ (33 ∷ (34 ∷ (35 ∷ [])))))))))))
