-- What the exported calls answer: a call of the rules, its answer as plain numbers.
use Rattle.std.specs.Prelude.{Bool, not, List, ℕ, eqb}
use Rattle.rules.specs.declared.Totals.{Totals}
use Rattle.rules.specs.declared.Line.{Line}
use Rattle.rules.specs.declared.WriteCount.{WriteCount}
use Rattle.rules.specs.Result.{Res, ok, err}
use Rattle.rules.specs.PageSets.{bit}
use Rattle.rules.specs.Calls.{check_call, list_call, read_call, format_call, put_call, delete_call}
use Rattle.rules.specs.Directories.{make_call, remove_call}
use Rattle.rules.specs.Careful.{careful_put_call, careful_delete_call, mend_call}
use Rattle.gathering.specs.Gather.{gather_call}
use Rattle.answers.specs.declared.OwfsTotals.{OwfsTotals}
use Rattle.answers.specs.declared.OwfsEntry.{OwfsEntry}
use Rattle.answers.specs.declared.OwfsLength.{OwfsLength}
use Rattle.answers.specs.declared.OwfsAnswer.{OwfsAnswer}
use Rattle.answers.specs.declared.OwfsWrites.{OwfsWrites}
use Rattle.answers.specs.declared.OwfsMended.{OwfsMended}

-- 0 and what is told, or the number and page of a refusal; every other field is 0
abbrev pub totals_for : Res Totals → OwfsTotals
totals_for (ok t) = record { number = 0; page = 0; used = t.used; files = t.files; directories = t.directories }
totals_for (err n p) = record { number = n; page = p; used = 0; files = 0; directories = 0 }

abbrev pub entry_for : Res Line → OwfsEntry
entry_for (ok x) = record {
  number = 0;
  page = 0;
  level = x.level;
  name = x.name;
  extension = x.extension;
  attribute = x.attribute;
  start = x.start;
  pages = x.pages;
  length = x.length;
}
entry_for (err n p) = record { number = n; page = p; level = 0; name = 0; extension = 0; attribute = 0; start = 0; pages = 0; length = 0 }

abbrev pub length_for : Res ℕ → OwfsLength
length_for (ok n) = record { number = 0; page = 0; length = n }
length_for (err n p) = record { number = n; page = p; length = 0 }

abbrev pub answer_for : Res (Unit {0}) → OwfsAnswer
answer_for (ok u) = record { number = 0; page = 0 }
answer_for (err n p) = record { number = n; page = p }

abbrev pub writes_for : Res WriteCount → OwfsWrites
writes_for (ok c) = record { number = 0; page = 0; made = c.made; left = bit c.left }
writes_for (err n p) = record { number = n; page = p; made = 0; left = 0 }

abbrev pub mended_for : Res ℕ → OwfsMended
mended_for (ok n) = record { number = 0; page = 0; cleared = n }
mended_for (err n p) = record { number = n; page = p; cleared = 0 }

-- the writes that such an answer tells of
abbrev pub count_told : OwfsWrites → WriteCount
count_told w = record { made = w.made; left = eqb w.left 1 }

-- any number but 0 asks for a local bitmap
abbrev pub asks_local : ℕ → Bool
asks_local n = not (eqb n 0)

-- the answer, the image or what is read, and every byte of the owner table
module _ (P N : ℕ) (image owners : List ℕ) where
  unfoldable pub check_answer : OwfsTotals × List ℕ
  check_answer = let r = check_call P N image owners in (totals_for r.0, r.1)

  unfoldable pub list_answer : ℕ → OwfsEntry × List ℕ
  list_answer k = let r = list_call P N image owners k in (entry_for r.0, r.1)

  unfoldable pub read_answer : List ℕ → List ℕ → OwfsLength × List ℕ × List ℕ
  read_answer path out = let r = read_call P N image owners path out in (length_for r.0, r.1, r.2)

  unfoldable pub format_answer : ℕ → OwfsAnswer × List ℕ × List ℕ
  format_answer local = let r = format_call P N image owners (asks_local local) in (answer_for r.0, r.1, r.2)

  unfoldable pub put_answer : List ℕ → List ℕ → OwfsAnswer × List ℕ × List ℕ
  put_answer path bytes = let r = put_call P N image owners path bytes in (answer_for r.0, r.1, r.2)

  unfoldable pub delete_answer : List ℕ → OwfsAnswer × List ℕ × List ℕ
  delete_answer path = let r = delete_call P N image owners path in (answer_for r.0, r.1, r.2)

  unfoldable pub make_answer : List ℕ → OwfsAnswer × List ℕ × List ℕ
  make_answer path = let r = make_call P N image owners path in (answer_for r.0, r.1, r.2)

  unfoldable pub remove_answer : List ℕ → OwfsAnswer × List ℕ × List ℕ
  remove_answer path = let r = remove_call P N image owners path in (answer_for r.0, r.1, r.2)

  -- the careful calls, which may make so many page writes, and the mend
  unfoldable pub careful_put_answer : List ℕ → List ℕ → ℕ → OwfsWrites × List ℕ × List ℕ
  careful_put_answer path bytes k = let r = careful_put_call P N image owners k path bytes in (writes_for r.0, r.1, r.2)

  unfoldable pub careful_delete_answer : List ℕ → ℕ → OwfsWrites × List ℕ × List ℕ
  careful_delete_answer path k = let r = careful_delete_call P N image owners k path in (writes_for r.0, r.1, r.2)

  unfoldable pub mend_answer : OwfsMended × List ℕ × List ℕ
  mend_answer = let r = mend_call P N image owners in (mended_for r.0, r.1, r.2)

  -- the gathering into a second image
  unfoldable pub gather_answer : List ℕ → OwfsAnswer × List ℕ × List ℕ
  gather_answer second = let r = gather_call P N image second owners in (answer_for r.0, r.1, r.2)
