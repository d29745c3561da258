-- An option that stands twice makes no command.
use Rattle.std.proofs.Common.{◌≡◌, List, [], ◌∷◌, Bool, true, false, Option, Some, None, refl, ap, sym, ◌∙◌, ◌||◌, ◌⊎◌, inl, inr, map, option_map}
use Rattle.std.specs.Prelude.{option_and_then}
use Rattle.std.specs.Option.{is_some}
use Rattle.std.specs.Str.{bytes_eq}
use Rattle.std.proofs.lemmas.Bool.{false≢true, or_right}
use Rattle.clap.specs.Words.{Row}
use Rattle.clap.specs.Walk.{has_row}
use Rattle.cmd_arguments.specs.declared.table.CommandName.{CommandName}
use Rattle.cmd_arguments.specs.declared.table.CommandName.TheVariants.{Translate, Check, Flags, Run80, Run86, Both, Sample, Cmd, CmdShow, Hex80, RunHex, Shrink, Leaves, Explain}
use Rattle.cmd_arguments.specs.declared.table.OptionName.{OptionName}
use Rattle.cmd_arguments.specs.declared.table.OptionName.TheVariants.{Top, Choice, Input, Disk, Ports, OutDisk, Tail, Steps, Plain, Zilog, Comments}
use Rattle.cmd_arguments.specs.Table.{Word, long_name, option_word, named_among, options_of, flag_words}
use Rattle.cmd_arguments.specs.Items.{Item, Name, Setting, name, flag, parted, joined, Sorts, none, marked, more}
use Rattle.cmd_arguments.specs.Given.{Gathered, Occurrence, Repeated, gathered, occurrence, texts_of}
use Rattle.cmd_arguments.specs.Words.{command_of, choice_of, page_of, run_options_of, steps_of, top_of, one_file, two_files, three_files, flag_of, input_file}
use Rattle.cmd_arguments.proofs.Forms.{named_word}
use Rattle.cmd_arguments.proofs.Rules.{same_names}
use Rattle.cmd_arguments.proofs.Rows.{eq_of, self_eq}
use Rattle.cmd_arguments.proofs.Uses.{item_rows, items_pass, name_row, setting_row}

-- ---- what a repeated option makes of a command

abbrev of_option : OptionName → Gathered → Occurrence
of_option Top g = g.top
of_option Choice g = g.choice
of_option Input g = g.input
of_option Disk g = g.disk
of_option Ports g = g.ports
of_option OutDisk g = g.out_disk
of_option Tail g = g.tail
of_option Steps g = g.steps
of_option Plain g = g.plain
of_option Zilog g = g.zilog
of_option Comments g = g.comments

no_end : {X Y : Type 0} (o : Option X) (f : X → Option Y) → ((x : X) → f x ≡ None) → option_and_then f o ≡ None
no_end None f e = refl
no_end (Some x) f e = e x

no_map : {X Y : Type 0} (f : X → Y) (o : Option X) → o ≡ None → option_map f o ≡ None
no_map f o e = ap (option_map f) e

no_top : (g : Gathered) → g.top ≡ Repeated → top_of g ≡ None
no_top g e = rw e refl

no_choice : (g : Gathered) → g.choice ≡ Repeated → choice_of g ≡ None
no_choice g e = rw e refl

no_steps : (g : Gathered) → g.steps ≡ Repeated → steps_of g ≡ None
no_steps g e = rw e refl

no_page : (g : Gathered) → g.tail ≡ Repeated → page_of g ≡ None
no_page g e = rw e refl

no_file : (o : Occurrence) → o ≡ Repeated → input_file o ≡ None
no_file o e = ap input_file e

-- what stops a chain
stops : {X Y : Type 0} (o : Option X) (f : X → Option Y) → o ≡ None → option_and_then f o ≡ None
stops o f e = ap (option_and_then f) e

no_run_input : (g : Gathered) → g.input ≡ Repeated → run_options_of g ≡ None
no_run_input g e = stops (input_file g.input) _ (no_file g.input e)

no_run_disk : (g : Gathered) → g.disk ≡ Repeated → run_options_of g ≡ None
no_run_disk g e = no_end (input_file g.input) _ (λ x0. stops (input_file g.disk) _ (no_file g.disk e))

no_run_ports : (g : Gathered) → g.ports ≡ Repeated → run_options_of g ≡ None
no_run_ports g e = no_end (input_file g.input) _ (λ x1. no_end (input_file g.disk) _ (λ x0. stops (input_file g.ports) _ (no_file g.ports e)))

no_run_out_disk : (g : Gathered) → g.out_disk ≡ Repeated → run_options_of g ≡ None
no_run_out_disk g e = no_end (input_file g.input) _ (λ x2. no_end (input_file g.disk) _ (λ x1. no_end (input_file g.ports) _ (λ x0. stops (input_file g.out_disk) _ (no_file g.out_disk e))))

no_run_tail : (g : Gathered) → g.tail ≡ Repeated → run_options_of g ≡ None
no_run_tail g e = no_end (input_file g.input) _ (λ x3. no_end (input_file g.disk) _ (λ x2. no_end (input_file g.ports) _ (λ x1. no_end (input_file g.out_disk) _ (λ x0. stops (page_of g) _ (no_page g e)))))

no_run_steps : (g : Gathered) → g.steps ≡ Repeated → run_options_of g ≡ None
no_run_steps g e = no_end (input_file g.input) _ (λ x4. no_end (input_file g.disk) _ (λ x3. no_end (input_file g.ports) _ (λ x2. no_end (input_file g.out_disk) _ (λ x1. no_end (page_of g) _ (λ x0. stops (steps_of g) _ (no_steps g e))))))

-- the command takes the option, or the flag
abbrev pub takes_option : CommandName → OptionName → Bool
takes_option c o = is_some (named_among (options_of c) (option_word o)) || is_some (named_among (flag_words c) (option_word o))

repeated : (c : CommandName) (o : OptionName) (g : Gathered) → takes_option c o ≡ true → of_option o g ≡ Repeated → command_of c g ≡ None
repeated Translate Top g takes e = no_map _ _ (no_end (flag_of g.plain) _ (λ x3. no_end (flag_of g.zilog) _ (λ x2. no_end (flag_of g.comments) _ (λ x1. no_end (two_files g.names) _ (λ x0. stops (top_of g) _ (no_top g e))))))
repeated Translate Choice g takes e = absurd (false≢true takes)
repeated Translate Input g takes e = absurd (false≢true takes)
repeated Translate Disk g takes e = absurd (false≢true takes)
repeated Translate Ports g takes e = absurd (false≢true takes)
repeated Translate OutDisk g takes e = absurd (false≢true takes)
repeated Translate Tail g takes e = absurd (false≢true takes)
repeated Translate Steps g takes e = absurd (false≢true takes)
repeated Translate Plain g takes e = no_map _ _ (stops (flag_of g.plain) _ (ap flag_of e))
repeated Translate Zilog g takes e = no_map _ _ (no_end (flag_of g.plain) _ (λ x. stops (flag_of g.zilog) _ (ap flag_of e)))
repeated Translate Comments g takes e = no_map _ _ (no_end (flag_of g.plain) _ (λ x1. no_end (flag_of g.zilog) _ (λ x0. stops (flag_of g.comments) _ (ap flag_of e))))
repeated Check Top g takes e = no_map _ _ (no_end (flag_of g.zilog) _ (λ z. no_end (two_files g.names) _ (λ x0. stops (top_of g) _ (no_top g e))))
repeated Check Choice g takes e = absurd (false≢true takes)
repeated Check Input g takes e = absurd (false≢true takes)
repeated Check Disk g takes e = absurd (false≢true takes)
repeated Check Ports g takes e = absurd (false≢true takes)
repeated Check OutDisk g takes e = absurd (false≢true takes)
repeated Check Tail g takes e = absurd (false≢true takes)
repeated Check Steps g takes e = absurd (false≢true takes)
repeated Check Plain g takes e = absurd (false≢true takes)
repeated Check Zilog g takes e = no_map _ _ (stops (flag_of g.zilog) _ (ap flag_of e))
repeated Check Comments g takes e = absurd (false≢true takes)
repeated Flags Top g takes e = no_map _ _ (no_end (flag_of g.zilog) _ (λ z. no_end (one_file g.names) _ (λ x0. stops (top_of g) _ (no_top g e))))
repeated Flags Choice g takes e = absurd (false≢true takes)
repeated Flags Input g takes e = absurd (false≢true takes)
repeated Flags Disk g takes e = absurd (false≢true takes)
repeated Flags Ports g takes e = absurd (false≢true takes)
repeated Flags OutDisk g takes e = absurd (false≢true takes)
repeated Flags Tail g takes e = absurd (false≢true takes)
repeated Flags Steps g takes e = absurd (false≢true takes)
repeated Flags Plain g takes e = absurd (false≢true takes)
repeated Flags Zilog g takes e = no_map _ _ (stops (flag_of g.zilog) _ (ap flag_of e))
repeated Flags Comments g takes e = absurd (false≢true takes)
repeated Run80 Top g takes e = no_map _ _ (no_end (flag_of g.zilog) _ (λ z. no_end (one_file g.names) _ (λ x0. stops (top_of g) _ (no_top g e))))
repeated Run80 Choice g takes e = absurd (false≢true takes)
repeated Run80 Input g takes e = no_map _ _ (no_end (flag_of g.zilog) _ (λ z. no_end (one_file g.names) _ (λ x1. no_end (top_of g) _ (λ x0. stops (run_options_of g) _ (no_run_input g e)))))
repeated Run80 Disk g takes e = no_map _ _ (no_end (flag_of g.zilog) _ (λ z. no_end (one_file g.names) _ (λ x1. no_end (top_of g) _ (λ x0. stops (run_options_of g) _ (no_run_disk g e)))))
repeated Run80 Ports g takes e = no_map _ _ (no_end (flag_of g.zilog) _ (λ z. no_end (one_file g.names) _ (λ x1. no_end (top_of g) _ (λ x0. stops (run_options_of g) _ (no_run_ports g e)))))
repeated Run80 OutDisk g takes e = no_map _ _ (no_end (flag_of g.zilog) _ (λ z. no_end (one_file g.names) _ (λ x1. no_end (top_of g) _ (λ x0. stops (run_options_of g) _ (no_run_out_disk g e)))))
repeated Run80 Tail g takes e = no_map _ _ (no_end (flag_of g.zilog) _ (λ z. no_end (one_file g.names) _ (λ x1. no_end (top_of g) _ (λ x0. stops (run_options_of g) _ (no_run_tail g e)))))
repeated Run80 Steps g takes e = no_map _ _ (no_end (flag_of g.zilog) _ (λ z. no_end (one_file g.names) _ (λ x1. no_end (top_of g) _ (λ x0. stops (run_options_of g) _ (no_run_steps g e)))))
repeated Run80 Plain g takes e = absurd (false≢true takes)
repeated Run80 Zilog g takes e = no_map _ _ (stops (flag_of g.zilog) _ (ap flag_of e))
repeated Run80 Comments g takes e = absurd (false≢true takes)
repeated Run86 Top g takes e = absurd (false≢true takes)
repeated Run86 Choice g takes e = no_map _ _ (no_end (one_file g.names) _ (λ x0. stops (choice_of g) _ (no_choice g e)))
repeated Run86 Input g takes e = no_map _ _ (no_end (one_file g.names) _ (λ x1. no_end (choice_of g) _ (λ x0. stops (run_options_of g) _ (no_run_input g e))))
repeated Run86 Disk g takes e = no_map _ _ (no_end (one_file g.names) _ (λ x1. no_end (choice_of g) _ (λ x0. stops (run_options_of g) _ (no_run_disk g e))))
repeated Run86 Ports g takes e = no_map _ _ (no_end (one_file g.names) _ (λ x1. no_end (choice_of g) _ (λ x0. stops (run_options_of g) _ (no_run_ports g e))))
repeated Run86 OutDisk g takes e = no_map _ _ (no_end (one_file g.names) _ (λ x1. no_end (choice_of g) _ (λ x0. stops (run_options_of g) _ (no_run_out_disk g e))))
repeated Run86 Tail g takes e = no_map _ _ (no_end (one_file g.names) _ (λ x1. no_end (choice_of g) _ (λ x0. stops (run_options_of g) _ (no_run_tail g e))))
repeated Run86 Steps g takes e = no_map _ _ (no_end (one_file g.names) _ (λ x1. no_end (choice_of g) _ (λ x0. stops (run_options_of g) _ (no_run_steps g e))))
repeated Run86 Plain g takes e = absurd (false≢true takes)
repeated Run86 Zilog g takes e = absurd (false≢true takes)
repeated Run86 Comments g takes e = absurd (false≢true takes)
repeated Both Top g takes e = no_map _ _ (no_end (flag_of g.zilog) _ (λ z. no_end (one_file g.names) _ (λ x0. stops (top_of g) _ (no_top g e))))
repeated Both Choice g takes e = no_map _ _ (no_end (flag_of g.zilog) _ (λ z. no_end (one_file g.names) _ (λ x1. no_end (top_of g) _ (λ x0. stops (choice_of g) _ (no_choice g e)))))
repeated Both Input g takes e = no_map _ _ (no_end (flag_of g.zilog) _ (λ z. no_end (one_file g.names) _ (λ x2. no_end (top_of g) _ (λ x1. no_end (choice_of g) _ (λ x0. stops (run_options_of g) _ (no_run_input g e))))))
repeated Both Disk g takes e = no_map _ _ (no_end (flag_of g.zilog) _ (λ z. no_end (one_file g.names) _ (λ x2. no_end (top_of g) _ (λ x1. no_end (choice_of g) _ (λ x0. stops (run_options_of g) _ (no_run_disk g e))))))
repeated Both Ports g takes e = no_map _ _ (no_end (flag_of g.zilog) _ (λ z. no_end (one_file g.names) _ (λ x2. no_end (top_of g) _ (λ x1. no_end (choice_of g) _ (λ x0. stops (run_options_of g) _ (no_run_ports g e))))))
repeated Both OutDisk g takes e = no_map _ _ (no_end (flag_of g.zilog) _ (λ z. no_end (one_file g.names) _ (λ x2. no_end (top_of g) _ (λ x1. no_end (choice_of g) _ (λ x0. stops (run_options_of g) _ (no_run_out_disk g e))))))
repeated Both Tail g takes e = no_map _ _ (no_end (flag_of g.zilog) _ (λ z. no_end (one_file g.names) _ (λ x2. no_end (top_of g) _ (λ x1. no_end (choice_of g) _ (λ x0. stops (run_options_of g) _ (no_run_tail g e))))))
repeated Both Steps g takes e = no_map _ _ (no_end (flag_of g.zilog) _ (λ z. no_end (one_file g.names) _ (λ x2. no_end (top_of g) _ (λ x1. no_end (choice_of g) _ (λ x0. stops (run_options_of g) _ (no_run_steps g e))))))
repeated Both Plain g takes e = absurd (false≢true takes)
repeated Both Zilog g takes e = no_map _ _ (stops (flag_of g.zilog) _ (ap flag_of e))
repeated Both Comments g takes e = absurd (false≢true takes)
repeated Sample Top g takes e = absurd (false≢true takes)
repeated Sample Choice g takes e = absurd (false≢true takes)
repeated Sample Input g takes e = absurd (false≢true takes)
repeated Sample Disk g takes e = absurd (false≢true takes)
repeated Sample Ports g takes e = absurd (false≢true takes)
repeated Sample OutDisk g takes e = absurd (false≢true takes)
repeated Sample Tail g takes e = absurd (false≢true takes)
repeated Sample Steps g takes e = absurd (false≢true takes)
repeated Sample Plain g takes e = absurd (false≢true takes)
repeated Sample Zilog g takes e = absurd (false≢true takes)
repeated Sample Comments g takes e = absurd (false≢true takes)
repeated Cmd Top g takes e = absurd (false≢true takes)
repeated Cmd Choice g takes e = absurd (false≢true takes)
repeated Cmd Input g takes e = absurd (false≢true takes)
repeated Cmd Disk g takes e = absurd (false≢true takes)
repeated Cmd Ports g takes e = absurd (false≢true takes)
repeated Cmd OutDisk g takes e = absurd (false≢true takes)
repeated Cmd Tail g takes e = absurd (false≢true takes)
repeated Cmd Steps g takes e = absurd (false≢true takes)
repeated Cmd Plain g takes e = absurd (false≢true takes)
repeated Cmd Zilog g takes e = absurd (false≢true takes)
repeated Cmd Comments g takes e = absurd (false≢true takes)
repeated CmdShow Top g takes e = absurd (false≢true takes)
repeated CmdShow Choice g takes e = absurd (false≢true takes)
repeated CmdShow Input g takes e = absurd (false≢true takes)
repeated CmdShow Disk g takes e = absurd (false≢true takes)
repeated CmdShow Ports g takes e = absurd (false≢true takes)
repeated CmdShow OutDisk g takes e = absurd (false≢true takes)
repeated CmdShow Tail g takes e = absurd (false≢true takes)
repeated CmdShow Steps g takes e = absurd (false≢true takes)
repeated CmdShow Plain g takes e = absurd (false≢true takes)
repeated CmdShow Zilog g takes e = absurd (false≢true takes)
repeated CmdShow Comments g takes e = absurd (false≢true takes)
repeated Hex80 Top g takes e = no_map _ _ (no_end (flag_of g.zilog) _ (λ x1. no_end (two_files g.names) _ (λ x0. stops (top_of g) _ (no_top g e))))
repeated Hex80 Choice g takes e = absurd (false≢true takes)
repeated Hex80 Input g takes e = absurd (false≢true takes)
repeated Hex80 Disk g takes e = absurd (false≢true takes)
repeated Hex80 Ports g takes e = absurd (false≢true takes)
repeated Hex80 OutDisk g takes e = absurd (false≢true takes)
repeated Hex80 Tail g takes e = absurd (false≢true takes)
repeated Hex80 Steps g takes e = absurd (false≢true takes)
repeated Hex80 Plain g takes e = absurd (false≢true takes)
repeated Hex80 Zilog g takes e = no_map _ _ (stops (flag_of g.zilog) _ (ap flag_of e))
repeated Hex80 Comments g takes e = absurd (false≢true takes)
repeated RunHex Top g takes e = no_map _ _ (no_end (one_file g.names) _ (λ x0. stops (top_of g) _ (no_top g e)))
repeated RunHex Choice g takes e = no_map _ _ (no_end (one_file g.names) _ (λ x1. no_end (top_of g) _ (λ x0. stops (choice_of g) _ (no_choice g e))))
repeated RunHex Input g takes e = no_map _ _ (no_end (one_file g.names) _ (λ x2. no_end (top_of g) _ (λ x1. no_end (choice_of g) _ (λ x0. stops (run_options_of g) _ (no_run_input g e)))))
repeated RunHex Disk g takes e = no_map _ _ (no_end (one_file g.names) _ (λ x2. no_end (top_of g) _ (λ x1. no_end (choice_of g) _ (λ x0. stops (run_options_of g) _ (no_run_disk g e)))))
repeated RunHex Ports g takes e = no_map _ _ (no_end (one_file g.names) _ (λ x2. no_end (top_of g) _ (λ x1. no_end (choice_of g) _ (λ x0. stops (run_options_of g) _ (no_run_ports g e)))))
repeated RunHex OutDisk g takes e = no_map _ _ (no_end (one_file g.names) _ (λ x2. no_end (top_of g) _ (λ x1. no_end (choice_of g) _ (λ x0. stops (run_options_of g) _ (no_run_out_disk g e)))))
repeated RunHex Tail g takes e = no_map _ _ (no_end (one_file g.names) _ (λ x2. no_end (top_of g) _ (λ x1. no_end (choice_of g) _ (λ x0. stops (run_options_of g) _ (no_run_tail g e)))))
repeated RunHex Steps g takes e = no_map _ _ (no_end (one_file g.names) _ (λ x2. no_end (top_of g) _ (λ x1. no_end (choice_of g) _ (λ x0. stops (run_options_of g) _ (no_run_steps g e)))))
repeated RunHex Plain g takes e = absurd (false≢true takes)
repeated RunHex Zilog g takes e = absurd (false≢true takes)
repeated RunHex Comments g takes e = absurd (false≢true takes)
repeated Shrink Top g takes e = no_map _ _ (no_end (three_files g.names) _ (λ x0. stops (top_of g) _ (no_top g e)))
repeated Shrink Choice g takes e = absurd (false≢true takes)
repeated Shrink Input g takes e = absurd (false≢true takes)
repeated Shrink Disk g takes e = absurd (false≢true takes)
repeated Shrink Ports g takes e = absurd (false≢true takes)
repeated Shrink OutDisk g takes e = absurd (false≢true takes)
repeated Shrink Tail g takes e = absurd (false≢true takes)
repeated Shrink Steps g takes e = absurd (false≢true takes)
repeated Shrink Plain g takes e = absurd (false≢true takes)
repeated Shrink Zilog g takes e = absurd (false≢true takes)
repeated Shrink Comments g takes e = absurd (false≢true takes)
repeated Leaves Top g takes e = no_map _ _ (no_end (flag_of g.zilog) _ (λ z. no_end (one_file g.names) _ (λ x0. stops (top_of g) _ (no_top g e))))
repeated Leaves Choice g takes e = absurd (false≢true takes)
repeated Leaves Input g takes e = absurd (false≢true takes)
repeated Leaves Disk g takes e = absurd (false≢true takes)
repeated Leaves Ports g takes e = absurd (false≢true takes)
repeated Leaves OutDisk g takes e = absurd (false≢true takes)
repeated Leaves Tail g takes e = absurd (false≢true takes)
repeated Leaves Steps g takes e = absurd (false≢true takes)
repeated Leaves Plain g takes e = absurd (false≢true takes)
repeated Leaves Zilog g takes e = no_map _ _ (stops (flag_of g.zilog) _ (ap flag_of e))
repeated Leaves Comments g takes e = absurd (false≢true takes)
repeated Explain Top g takes e = no_map _ _ (no_end (flag_of g.zilog) _ (λ z. no_end (two_files g.names) _ (λ x0. stops (top_of g) _ (no_top g e))))
repeated Explain Choice g takes e = absurd (false≢true takes)
repeated Explain Input g takes e = absurd (false≢true takes)
repeated Explain Disk g takes e = absurd (false≢true takes)
repeated Explain Ports g takes e = absurd (false≢true takes)
repeated Explain OutDisk g takes e = absurd (false≢true takes)
repeated Explain Tail g takes e = absurd (false≢true takes)
repeated Explain Steps g takes e = absurd (false≢true takes)
repeated Explain Plain g takes e = absurd (false≢true takes)
repeated Explain Zilog g takes e = no_map _ _ (stops (flag_of g.zilog) _ (ap flag_of e))
repeated Explain Comments g takes e = absurd (false≢true takes)

of_gathered : (o : OptionName) (items : List Item) → of_option o (gathered items) ≡ occurrence (texts_of o items)
of_gathered Top items = refl
of_gathered Choice items = refl
of_gathered Input items = refl
of_gathered Disk items = refl
of_gathered Ports items = refl
of_gathered OutDisk items = refl
of_gathered Tail items = refl
of_gathered Steps items = refl
of_gathered Plain items = refl
of_gathered Zilog items = refl
of_gathered Comments items = refl

-- ---- an option that stands twice

named_takes : (c : CommandName) (w : Word) (o : OptionName) → named_among (options_of c) w ≡ Some o → takes_option c o ≡ true
named_takes c w o e = ap (λ p. is_some p || is_some (named_among (flag_words c) (option_word o))) (sym (ap (named_among (options_of c)) (named_word (options_of c) w o e)) ∙ e)

flag_takes : (c : CommandName) (w : Word) (f : OptionName) → named_among (flag_words c) w ≡ Some f → takes_option c f ≡ true
flag_takes c w f e = or_right (is_some (named_among (options_of c) (option_word f))) _ (ap is_some (sym (ap (named_among (flag_words c)) (named_word (flag_words c) w f e)) ∙ e))

-- texts of an option stand among the items
abbrev HasText : OptionName → List Item → Type 0
HasText o items = (text : Word) × (texts : List Word) × (texts_of o items ≡ text ∷ texts)

takes_as : (c : CommandName) (p o : OptionName) → bytes_eq (option_word p) (option_word o) ≡ true → takes_option c p ≡ true → takes_option c o ≡ true
takes_as c p o e takes = ap (λ w. is_some (named_among (options_of c) w) || is_some (named_among (flag_words c) w)) (sym (eq_of (option_word p) (option_word o) e)) ∙ takes

pub no_texts_of_names : (o : OptionName) (ws : List Word) → texts_of o (map Name ws) ≡ []
no_texts_of_names o [] = refl
no_texts_of_names o (w ∷ ws) = no_texts_of_names o ws

pub list_apart : {X : Type 0} (x : X) (xs : List X) → [] ≡ x ∷ xs → ⊥
list_apart {X} x xs e = false≢true (ap is_more e)
  where
    is_more : List X → Bool
    is_more [] = false
    is_more (y ∷ ys) = true

-- it is the command's
setting_taken : (c : CommandName) (o p : OptionName) (text : Word) (items : List Item) → takes_option c p ≡ true → HasText o (Setting p text ∷ items) → (HasText o items → takes_option c o ≡ true) → takes_option c o ≡ true
setting_taken c o p text items takes has rest = go _ refl has
  where
    go : (b : Bool) → bytes_eq (option_word p) (option_word o) ≡ b → HasText o (Setting p text ∷ items) → takes_option c o ≡ true
    go true e has = takes_as c p o e takes
    go false e has = rest (has.0, has.1, rw e at has.2)

text_taken : (c : CommandName) (ws : List Word) (items : List Item) (o : OptionName) → Sorts c ws items → HasText o items → takes_option c o ≡ true
text_taken c [] [] o none has = absurd (list_apart _ _ has.2)
text_taken c ws items o (marked {ws = names}) has = absurd (list_apart _ _ (sym (no_texts_of_names o names) ∙ has.2))
text_taken c ws items o (more {rest} {items = others} (name is) s) has = text_taken c rest others o s has
text_taken c ws items o (more {rest} {items = others} (flag {w} {f} e) s) has = setting_taken c o f [] others (flag_takes c w f e) has (λ h. text_taken c rest others o s h)
text_taken c ws items o (more {rest} {items = others} (parted {w} {text} {o = p} e v) s) has = setting_taken c o p text others (named_takes c w p e) has (λ h. text_taken c rest others o s h)
text_taken c ws items o (more {rest} {items = others} (joined {text} {o = p} word parts e) s) has = setting_taken c o p text others (named_takes c word p e) has (λ h. text_taken c rest others o s h)

-- an option stands twice among the items, or stands in the rows and among the items
record IsAgain (o : OptionName) (rows : List Row) (items : List Item) : Type 0 where
  first : Word
  others : List Word
  row : has_row (long_name o) rows ≡ true
  texts : texts_of o items ≡ first ∷ others

abbrev IsTwiceAs : OptionName → List Row → List Item → Type 0
IsTwiceAs o rows items = IsAgain o rows items ⊎ (occurrence (texts_of o items) ≡ Repeated)

abbrev IsTwice : List Row → List Item → Type 0
IsTwice rows items = (o : OptionName) × IsTwiceAs o rows items

twice_behind : (p : OptionName) (text : Word) (rows : List Row) (items : List Item) → has_row (long_name p) rows ≡ false → (o : OptionName) → IsTwiceAs o (item_rows rows (Setting p text)) items → IsTwice rows (Setting p text ∷ items)
twice_behind p text rows items fresh o (inl has) = go _ refl
  where
    go : (b : Bool) → bytes_eq (option_word p) (option_word o) ≡ b → IsTwice rows (Setting p text ∷ items)
    go true e = (o, inr (rw e (ap (λ ts. occurrence (text ∷ ts)) has.texts)))
    go false e = (o, inl (record { first = has.first; others = has.others; row = sym (setting_row p o text rows fresh ∙ ap (λ b. b || has_row (long_name o) rows) (sym (same_names p o) ∙ e)) ∙ has.row; texts = rw e has.texts }))
twice_behind p text rows items fresh o (inr twice) = go _ refl
  where
    more_texts : (ts : List Word) → occurrence ts ≡ Repeated → occurrence (text ∷ ts) ≡ Repeated
    more_texts [] e = cc
    more_texts (t ∷ ts) e = refl

    go : (b : Bool) → bytes_eq (option_word p) (option_word o) ≡ b → IsTwice rows (Setting p text ∷ items)
    go true e = (o, inr (rw e (more_texts (texts_of o items) twice)))
    go false e = (o, inr (rw e twice))

name_twice : (w : Word) (rows : List Row) (items : List Item) (o : OptionName) → IsTwiceAs o (item_rows rows (Name w)) items → IsTwice rows (Name w ∷ items)
name_twice w rows items o (inl has) = (o, inl (record { first = has.first; others = has.others; row = sym (name_row o w rows) ∙ has.row; texts = has.texts }))
name_twice w rows items o (inr r) = (o, inr r)

twice : (rows : List Row) (items : List Item) → items_pass rows items ≡ false → IsTwice rows items
twice rows [] e = absurd (false≢true (sym e))
twice rows (Name w ∷ items) e = let t = twice (item_rows rows (Name w)) items e in name_twice w rows items t.0 t.1
twice rows (Setting p text ∷ items) e = go _ refl (λ h. twice (item_rows rows (Setting p text)) items h)
  where
    go : (b : Bool) → has_row (long_name p) rows ≡ b → (items_pass (item_rows rows (Setting p text)) items ≡ false → IsTwice (item_rows rows (Setting p text)) items) → IsTwice rows (Setting p text ∷ items)
    go true has rec = (p, inl (record { first = text; others = texts_of p items; row = has; texts = rw (self_eq (option_word p)) refl }))
    go false has rec = let t = rec (rw has at e) in twice_behind p text rows items has t.0 t.1

pub twice_no_command : (c : CommandName) (ws : List Word) (items : List Item) → Sorts c ws items → items_pass [] items ≡ false → command_of c (gathered items) ≡ None
twice_no_command c ws items s e = let t = twice [] items e in go t.0 t.1
  where
    more_of : (o : OptionName) (ts : List Word) → texts_of o items ≡ ts → occurrence ts ≡ Repeated → HasText o items
    more_of o [] is e = cc
    more_of o (t ∷ ts) is e = (t, ts, is)

    go : (o : OptionName) → IsTwiceAs o [] items → command_of c (gathered items) ≡ None
    go o (inl has) = absurd (false≢true has.row)
    go o (inr r) = repeated c o (gathered items) (text_taken c ws items o s (more_of o (texts_of o items) refl r)) (of_gathered o items ∙ r)
