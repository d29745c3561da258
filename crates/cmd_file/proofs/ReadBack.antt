-- What is written of a command file is that file.
use Rattle.std.proofs.Common.{◌≡◌, ℕ, ◌+◌, ◌-◌, ◌<◌, ◌≤◌, List, [], ◌∷◌, ◌++◌, length, take, replicate, refl, ap, ◌∙◌, arith, append_assoc, lit<}
use Rattle.std.specs.List.{All, flat_map}
use Rattle.std.proofs.lemmas.List.{length-append, length-replicate}
use Rattle.std.proofs.lemmas.List.Elements.{All-from_recursion, All-append, All-replicate}
use Rattle.cmd_file.specs.CommandFile.{Group, descriptor, file_bytes, Describes, CommandFile, IsCommandFile}
use Rattle.cmd_file.specs.Written.{lacking, zero_filled, paragraphs, no_group, written_layout, written, IsPart, MayBeWritten}

abbrev IsByte : ℕ → Type 0
IsByte b = b < 256

-- a descriptor of bytes
group_bytes : (g : Group) → g.form < 256 → g.length < 0x10000 → g.base < 0x10000 → g.least < 0x10000 → g.greatest < 0x10000 → All IsByte (descriptor g)
group_bytes g form length base least greatest =
    All-from_recursion IsByte (descriptor g)
    (form, (omega arith, (omega arith, (omega arith, (omega arith, (omega arith, (omega arith, (omega arith, (omega arith, tt)))))))))

lacking_small : (n : ℕ) → lacking 128 n ≤ 127
lacking_small n = omega arith

part_described : (form : ℕ) (bytes : List ℕ) (least greatest : ℕ) → IsPart bytes → Describes form bytes (record { form = form; length = paragraphs bytes; base = 0; least = least; greatest = greatest })
part_described form bytes least greatest is =
    let whole = is.whole in
    let most = is.most in
    record { form_is = refl; size = omega arith; most = omega arith; base_is = refl }

pub written_is_file : (file : CommandFile) → MayBeWritten file → IsCommandFile (written file) file
unfolding written
written_is_file file h =
    let l = written_layout file in
    let more = lacking 128 (128 + (length file.code + length file.data)) in
    let code_most = h.code_part.most in
    let data_most = h.data_part.most in
    let zeros : (n : ℕ) → All IsByte (replicate n 0) = λ n. All-replicate IsByte n 0 (lit< tt) in
    let groups = file.code ++ (file.data ++ replicate more 0) in
    let rest = replicate 56 0 ++ groups in
    let others = flat_map descriptor (replicate 6 no_group) ++ rest in
    let bytes : All IsByte (file_bytes l) =
    All-append IsByte (descriptor l.code_group) (descriptor l.data_group ++ others) (group_bytes l.code_group (lit< tt) (omega arith) (lit< tt) (omega arith) (omega arith))
    (All-append IsByte (descriptor l.data_group) others (group_bytes l.data_group (lit< tt) (omega arith) (lit< tt) (lit< tt) (lit< tt))
    (All-append IsByte (flat_map descriptor (replicate 6 no_group)) rest (zeros 54)
    (All-append IsByte (replicate 56 0) groups (zeros 56)
    (All-append IsByte file.code (file.data ++ replicate more 0) h.code_small (All-append IsByte file.data (replicate more 0) h.data_small (zeros more))))))
    in
    record {
      layout = l;
      lawful = record {
        code_described = part_described 1 file.code (paragraphs file.code) (paragraphs file.code) h.code_part;
        data_described = part_described 2 file.data 0x1000 0x1000 h.data_part;
        no_others = All-replicate (λ g. g.form ≡ 0) 6 no_group refl;
        six = refl;
        header = refl;
        last = omega (arith, length-replicate {A = ℕ} more 0, lacking_small (128 + (length file.code + length file.data)));
        bytes = bytes;
      };
      spelt = refl;
      groups = refl;
    }

-- the header that is filled, the groups and their padding are the file
pub filled_is_written : (file : CommandFile) (first second header whole : List ℕ) (n : ℕ) → first ≡ descriptor (written_layout file).code_group → second ≡ descriptor (written_layout file).data_group → n ≡ 18 → header ≡ take 128 (first ++ second) ++ replicate (128 - n) 0 → whole ≡ zero_filled 128 ((header ++ file.code) ++ file.data) → whole ≡ written file
unfolding written
filled_is_written file first second header whole n f s size h w =
    let l = written_layout file in
    let begun : header ≡ descriptor l.code_group ++ (descriptor l.data_group ++ replicate 110 0) =
    h
    ∙ ap (λ m. take 128 (first ++ second) ++ replicate (128 - m) 0) size
    ∙ ap (λ d. take 128 (d ++ second) ++ replicate 110 0) f
    ∙ ap (λ d. take 128 (descriptor l.code_group ++ d) ++ replicate 110 0) s
    in
    let long : length header ≡ 128 = ap length begun in
    let all : length ((header ++ file.code) ++ file.data) ≡ 128 + (length file.code + length file.data) = omega (arith, length-append (header ++ file.code) file.data, length-append header file.code, long) in
    let padding = replicate (lacking 128 (128 + (length file.code + length file.data))) 0 in
    w
    ∙ ap (λ m. ((header ++ file.code) ++ file.data) ++ replicate (lacking 128 m) 0) all
    ∙ append_assoc (header ++ file.code) file.data padding
    ∙ append_assoc header file.code (file.data ++ padding)
    ∙ ap (λ d. d ++ (file.code ++ (file.data ++ padding))) begun

-- ---- the first bytes of the file of 48 bytes of code and 256 of data, and how many it has

abbrev example : CommandFile
example = record { code = replicate 48 0x90; «data» = replicate 256 0 }

first_bytes : take 19 (written example) ≡ 1 ∷ (3 ∷ (0 ∷ (0 ∷ (0 ∷ (3 ∷ (0 ∷ (3 ∷ (0 ∷ (2 ∷ (0x10 ∷ (0 ∷ (0 ∷ (0 ∷ (0 ∷ (0x10 ∷ (0 ∷ (0x10 ∷ (0 ∷ []))))))))))))))))))
unfolding written
first_bytes = refl

file_length : length (written example) ≡ 512
unfolding written
file_length = refl
