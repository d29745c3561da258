-- What a command's answer is among the clauses of the program: words are one command at most.
use Rattle.std.proofs.Common.{◌≡◌, ℕ, List, Option, Some, None, inl, inr, refl, sym, ◌∙◌, subst, arith}
use Rattle.host.specs.Host.{HostState, SameFiles}
use Rattle.host.proofs.HostLemmas.{OnlyReads-refl}
use Rattle.asm86_line_types.specs.Image.{image_of}
use Rattle.cmd_arguments.specs.Words.{Translate, Check, Cmd, Hex80, Command, Translates, Checks, ListsFlags, Runs80, Runs86, RunsBoth, MakesSample, MakesCmd, ShowsCmd, WritesHex, RunsHex, IsCommand, IsNoCommand, Shrink, ShrinksText, ListsLeaves, ExplainsText}
use Rattle.cmd_common.specs.Names.{FileNames, two_names}
use Rattle.cmd_common.specs.declared.stop.Stop.TheVariants.{OutOfMemory}
use Rattle.cmd_common.specs.Said.{IsRefusedWords, SaysLast, Closes, said, unsaid}
use Rattle.cmd_common.specs.Lines.{memory_line}
use Rattle.cmd_common.proofs.Said.{never_0}
use Rattle.cmd_explain.specs.Explains as explaining
use Rattle.cmd_shrink.specs.Shrinks as shrinking
use Rattle.cmd_shrink.specs.Shrinks.{ShrunkHeadline}
use Rattle.cmd_translate.specs.Translates as translation
use Rattle.cmd_check.specs.Checks as checking
use Rattle.cmd_sample.specs.Samples as making
use Rattle.cmd_runs.specs.Keeping.{DiskAlone}
use Rattle.cmd_runs.specs.Kinds as running_one
use Rattle.cmd_runs.specs.Works as running
use Rattle.cmd_runs.specs.BothLoads as running_both
use Rattle.cmd_common.specs.Makes as files
use Rattle.cmd_makes.specs.Cmds.{HasCommandFile}
use Rattle.cmd_makes.specs.Hexes.{HasHexFile}
use Rattle.xlt_app.specs.Top.{Headline, CheckedHeadline, IsStatus, refused as words_are_refused, no_memory as words_want_memory, Outcomes, CommandAnswers}
use Rattle.xlt_app.proofs.Statuses.{of_5, of_words, of_answer}

-- ---- the headlines

headline_by : (c : Translate) (old new : HostState) (status : ℕ) → translation.TranslateGives c old new status → status ≡ 0 → Headline c old new
headline_by c old new _ (translation.translated p lines a w s l f) e = record {
  source = a.bytes;
  program = p;
  text = a.out;
  image = s.image;
  given = a.file.0;
  is_source = a.source;
  written = w.text;
  has_image = s.has_image;
  reader = s.reader;
  same = s.same;
}
headline_by c old new _ (translation.refused line rule r l) e = absurd (omega (arith, e))
headline_by c old new _ (translation.too_large size x l) e = absurd (omega (arith, e))
headline_by c old new _ (translation.unread r l) e = absurd (omega (arith, e))
headline_by c old new _ (translation.unwritten p lines a w s) e = absurd (omega (arith, e))
headline_by c old new _ (translation.unsaid p lines a w f s) e = absurd (omega (arith, e))
headline_by c old new _ (translation.no_memory l) e = absurd (omega (arith, e))
headline_by c old new _ (translation.no_memory_to_write p lines a w s) e = absurd (omega (arith, e))
headline_by c old new _ (translation.no_memory_to_say p lines a w f s) e = absurd (omega (arith, e))
headline_by c old new _ (translation.too_long l s) e = absurd (omega (arith, e))

checked_by : (c : Check) (old new : HostState) (status : ℕ) → checking.CheckGives c old new status → status ≡ 0 → CheckedHeadline c old
checked_by c old new status (checking.shown mid line h d) e = record {
  source = h.loads.source;
  program = h.program;
  text = h.loads.text;
  image = image_of h.lines;
  source_given = h.loads.reads.source_file.0;
  is_source = h.loads.is_source;
  text_given = h.loads.reads.text_file.0;
  has_image = record { lines = h.lines; reads = h.loads.gives; assembled = record { assembles = h.loads.stands.made.assembles; is = refl } };
  reader = h.loads.stands.reader;
  same = h.shown.same;
}
checked_by c old new status (checking.stopped mid stop s k) e = absurd (never_0 (two_names c.source c.text) stop mid new status k e)

module _ (words : List (List ℕ)) (old new : HostState) (status : ℕ) (o : Outcomes words old new status) where
  pub has_headline : (c : Translate) → IsCommand words (Translates c) → status ≡ 0 → Headline c old new
  has_headline c is e = headline_by c old new status (o.answered (Translates c) is).gives e

  pub has_checked : (c : Check) → IsCommand words (Checks c) → status ≡ 0 → CheckedHeadline c old
  has_checked c is e = checked_by c old new status (o.answered (Checks c) is).gives e

  pub has_command_file : (c : Cmd) → IsCommand words (MakesCmd c) → status ≡ 0 → HasCommandFile c old new
  has_command_file c is e = (o.answered (MakesCmd c) is).loads e

  pub has_hex_file : (c : Hex80) → IsCommand words (WritesHex c) → status ≡ 0 → HasHexFile c old new
  has_hex_file c is e = (o.answered (WritesHex c) is).file e

  pub has_shrunk : (c : Shrink) → IsCommand words (ShrinksText c) → status ≡ 0 → ShrunkHeadline c old new
  has_shrunk c is e = (o.answered (ShrinksText c) is).headline e

-- ---- what words come to

-- words are one command at most
abbrev pub OneCommand : Type 0
OneCommand = (words : List (List ℕ)) (c d : Command) → IsCommand words c → IsCommand words d → c ≡ d

-- the line of want of memory was said
status_of_memory : {names : FileNames} (old new : HostState) (status : ℕ) → Closes names OutOfMemory old new status → status ≡ 5
status_of_memory old new status (said e l) = e
status_of_memory old new status (unsaid n e l) = e

says_memory : {names : FileNames} (old new : HostState) (status : ℕ) → Closes names OutOfMemory old new status → SaysLast memory_line old new
says_memory old new status (said e l) = l
says_memory old new status (unsaid n e l) = l

alone : (old new : HostState) (name : Option (List ℕ)) → SameFiles old new → DiskAlone name old new
alone old new None same = same
alone old new (Some name) same = λ other ne. same other

module _ (words : List (List ℕ)) (old new : HostState) (status : ℕ) where
  pub by_command : OneCommand → (c : Command) → IsCommand words c → CommandAnswers c old new status → Outcomes words old new status
  by_command one c is answers =
      let of = of_answer c old new status answers in
      record {
        number = of.number;
        no_command = λ none. absurd (none c is);
        words_refused = λ e. absurd (of.other e);
        answered = λ d h. subst (λ k. CommandAnswers k old new status) (one words c d is h) answers;
      }

  pub by_no_command : IsNoCommand words → IsRefusedWords old new status → Outcomes words old new status
  by_no_command none refused = record {
    number = subst IsStatus (sym refused.0) of_words;
    no_command = λ others. words_are_refused refused;
    words_refused = λ e. none;
    answered = λ c is. absurd (none c is);
  }

  -- ---- memory ran out before any command began

  module _ {names : FileNames} (closes : Closes names OutOfMemory old new status) where
    is_5 : status ≡ 5
    is_5 = status_of_memory old new status closes

    says : SaysLast memory_line old new
    says = says_memory old new status closes

    same : SameFiles old new
    same = says.only.files

    -- any command may want memory
    wanting : (c : Command) → CommandAnswers c old new status
    wanting (Translates c) = record {
      gives = subst (translation.TranslateGives c old new) (sym is_5) (translation.no_memory (record { mid = old; reads = OnlyReads-refl old; says = says }));
      completes = λ none bytes told other. absurd (other is_5);
    }
    wanting (Checks c) = record {
      gives = checking.stopped old OutOfMemory (checking.unloaded (checking.out_of_memory (OnlyReads-refl old))) (said is_5 says);
      completes = λ none s t a b. inl is_5;
      own = λ none s t a b w. inr is_5;
      files = same;
    }
    wanting (ListsFlags c) = record {
      gives = files.stopped old OutOfMemory (files.unmade (OnlyReads-refl old) files.no_memory) (said is_5 says);
      completes = λ none bytes told other. absurd (other is_5);
      files = same;
    }
    wanting (Runs80 c) = record {
      gives = running.stopped old OutOfMemory (running.unloaded (OnlyReads-refl old) running_one.no_memory) (said is_5 says);
      completes = λ none bytes given told supply. inl is_5;
      files = alone old new c.run.out_disk same;
    }
    wanting (Runs86 c) = record {
      gives = running.stopped old OutOfMemory (running.unloaded (OnlyReads-refl old) running_one.no_memory) (said is_5 says);
      completes = λ none bytes given told supply. inl is_5;
      files = alone old new c.run.out_disk same;
    }
    wanting (RunsBoth c) = record {
      gives = running.stopped old OutOfMemory (running.unloaded (OnlyReads-refl old) running_both.no_memory) (said is_5 says);
      completes = λ none bytes given told supply. inl is_5;
      files = alone old new c.run.out_disk same;
    }
    wanting (MakesSample c) = record {
      gives = subst (making.SampleGives c old new) (sym is_5) (making.no_memory says);
      completes = λ none other. absurd (other is_5);
    }
    wanting (MakesCmd c) = record {
      gives = files.stopped old OutOfMemory (files.unmade (OnlyReads-refl old) files.no_memory) (said is_5 says);
      completes = λ none bytes told other. absurd (other is_5);
      loads = λ e. absurd (omega (arith, e, is_5));
    }
    wanting (ShowsCmd c) = record {
      gives = files.stopped old OutOfMemory (files.unmade (OnlyReads-refl old) files.no_memory) (said is_5 says);
      completes = λ none bytes told other. absurd (other is_5);
      files = same;
    }
    wanting (WritesHex c) = record {
      gives = files.stopped old OutOfMemory (files.unmade (OnlyReads-refl old) files.no_memory) (said is_5 says);
      completes = λ none bytes told other. absurd (other is_5);
      file = λ e. absurd (omega (arith, e, is_5));
    }
    wanting (RunsHex c) = record {
      gives = running.stopped old OutOfMemory (running.unloaded (OnlyReads-refl old) running_one.no_memory) (said is_5 says);
      completes = λ none bytes given told supply. inl is_5;
      files = alone old new c.run.out_disk same;
    }
    wanting (ShrinksText c) = record {
      gives = shrinking.stopped old OutOfMemory (shrinking.unloaded (checking.out_of_memory (OnlyReads-refl old))) (said is_5 says);
      completes = λ none s t a b. inl is_5;
      headline = λ e. absurd (omega (arith, e, is_5));
    }
    wanting (ListsLeaves c) = record {
      gives = files.stopped old OutOfMemory (files.unmade (OnlyReads-refl old) files.no_memory) (said is_5 says);
      completes = λ none bytes told other. absurd (other is_5);
      files = same;
      left = λ e. absurd (omega (arith, e, is_5));
    }
    wanting (ExplainsText c) = record {
      gives = explaining.stopped old OutOfMemory (checking.out_of_memory (OnlyReads-refl old)) (said is_5 says);
      completes = λ none s t a b. inl is_5;
      files = same;
    }

    pub by_memory : Outcomes words old new status
    by_memory = record {
      number = subst IsStatus (sym is_5) of_5.number;
      no_command = λ none. words_want_memory is_5 says;
      words_refused = λ e. absurd (of_5.other (sym is_5 ∙ e));
      answered = λ c is. wanting c;
    }
