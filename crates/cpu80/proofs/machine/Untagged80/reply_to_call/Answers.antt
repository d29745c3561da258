use Rattle.std.proofs.Common.{◌≡◌, ◌∙◌, List, Option, Some, None, ap, refl, subst, sym}
use Rattle.dialogue.specs.declared.blocks.Block.{Block}
use Rattle.dialogue.specs.declared.request.Reply.{Reply}
use Rattle.dialogue.specs.declared.request.Shape.{Shape}
use Rattle.dialogue.specs.declared.request.Event.TheVariants.{Call}
use Rattle.dialogue.specs.ByteMemory.{seen_by}
use Rattle.dialogue.specs.Fits.{fits_row}
use Rattle.dialogue.specs.Shape.{request_of}
use Rattle.dialogue.specs.Table.{Row, row_of}
use Rattle.cpu80.specs.Back.{back_of}
use Rattle.cpu80.specs.ProcessorState.{untagged_state}
use Rattle.cpu80.specs.Standing.{said_by, Keeps}
use Rattle.cpu80.specs.Step.{return_at}
use Rattle.cpu80.proofs.Replying.{not_taken, taken_by}
use Rattle.cpu80.proofs.machine.Untagged80.reply_to_call.Goals as goal

-- what is read of memory does not decide whether a reply fits
alike : (row : Option Row) (shape : Shape) (xs ys : List Block) (y : Reply) → fits_row row (record { shape = shape; blocks = xs }) y ≡ fits_row row (record { shape = shape; blocks = ys }) y
alike None shape xs ys y = refl
alike (Some row) shape xs ys y = refl

pub returns-then-not-fits : goal.returns-then-not-fits
returns-then-not-fits c =
    let u = untagged_state c.args.self.now.processor in
    record {
      reply = λ fetch of.
          not_taken fetch u (Call (request_of c.args.shape (seen_by u.mem))) c.args.reply.now c.args.choice c.args.self.now.pending (ap (λ p. said_by p u.mem) c.requires)
          (alike (row_of c.args.shape.function) c.args.shape (request_of c.args.shape (seen_by u.mem)).blocks c.from_vec.result c.args.reply.now ∙ sym c.fits.ensures ∙ c.if-not-fits.true);
      machine = λ fetch of. of;
    }

pub returns : goal.returns
returns c =
    let u = untagged_state c.args.self.now.processor in
    record {
      reply = λ fetch of.
          taken_by fetch u (Call (request_of c.args.shape (seen_by u.mem))) c.args.reply.now c.args.choice c.args.self.now.pending (back_of c.args.back) (untagged_state c.take_reply.new.self) (ap (λ p. said_by p u.mem) c.requires)
          (subst (λ p. Keeps (return_at fetch u u.place) u u p) c.requires of).0 (alike (row_of c.args.shape.function) c.args.shape (request_of c.args.shape (seen_by u.mem)).blocks c.from_vec.result c.args.reply.now ∙ sym c.fits.ensures ∙ c.if-not-fits.false) c.take_reply.ensures;
      machine = λ fetch of. tt;
    }
