-- Five ways out in the order of the rule: a length that is no multiple of 4, too short, too long, a name that is not valid, a path. Its last four bytes are the directory's own name.
use Rattle.lookup.proofs.Cases.{uneven_length, no_name, nine_names, bad_directory, directory_formed}
use Rattle.std.proofs.lemmas.Bool.{not_from_true, not_from_false}
use Rattle.lookup.proofs.path.parse_directory.Goals as goal

pub returns-then-n-ne0 : goal.returns-then-n-ne0
returns-then-n-ne0 c = uneven_length _ c.if-n-ne0.true

pub returns-then-n-lt-NAME_BYTES : goal.returns-then-n-lt-NAME_BYTES
returns-then-n-lt-NAME_BYTES c = no_name _ c.if-n-ne0.false c.if-n-lt-NAME_BYTES.true

pub returns-then-n-gt-MOST_DIRECTORY_BYTES : goal.returns-then-n-gt-MOST_DIRECTORY_BYTES
returns-then-n-gt-MOST_DIRECTORY_BYTES c = nine_names _ c.if-n-ne0.false c.if-n-lt-NAME_BYTES.false c.if-n-gt-MOST_DIRECTORY_BYTES.true

pub returns-then-not-valid : goal.returns-then-not-valid
returns-then-not-valid c =
    bad_directory _ c.if-n-ne0.false c.if-n-lt-NAME_BYTES.false c.if-n-gt-MOST_DIRECTORY_BYTES.false _ c.valid_names-valid.ensures (not_from_false _ c.if-not-valid.true)

pub returns : goal.returns
returns c =
    directory_formed _ c.if-n-ne0.false c.if-n-lt-NAME_BYTES.false c.if-n-gt-MOST_DIRECTORY_BYTES.false _ c.valid_names-valid.ensures (not_from_true _ c.if-not-valid.false) _ c.number_at-name.ensures.0
