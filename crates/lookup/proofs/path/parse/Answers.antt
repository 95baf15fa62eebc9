-- Six ways out in the order of the rule: a length that is not one more than a multiple of 4, too short, too long, a name that is not valid, an extension above 99, a path.
-- Of a path the last four bytes before the extension are the file's name, all names before it directories.
use Rattle.lookup.proofs.Cases.{odd_length, too_short, too_long, bad_name, bad_extension, well_formed_lem}
use Rattle.std.proofs.lemmas.Bool.{not_from_true, not_from_false}
use Rattle.lookup.proofs.path.parse.Goals as goal

pub returns-then-n-ne-EXTENSION_BYTES : goal.returns-then-n-ne-EXTENSION_BYTES
returns-then-n-ne-EXTENSION_BYTES c = odd_length _ c.if-n-ne-EXTENSION_BYTES.true

pub returns-then-n-lt-LEAST_BYTES : goal.returns-then-n-lt-LEAST_BYTES
returns-then-n-lt-LEAST_BYTES c = too_short _ c.if-n-ne-EXTENSION_BYTES.false c.if-n-lt-LEAST_BYTES.true

pub returns-then-n-gt-MOST_BYTES : goal.returns-then-n-gt-MOST_BYTES
returns-then-n-gt-MOST_BYTES c = too_long _ c.if-n-ne-EXTENSION_BYTES.false c.if-n-lt-LEAST_BYTES.false c.if-n-gt-MOST_BYTES.true

pub returns-then-not-valid : goal.returns-then-not-valid
returns-then-not-valid c =
    bad_name _ c.if-n-ne-EXTENSION_BYTES.false c.if-n-lt-LEAST_BYTES.false c.if-n-gt-MOST_BYTES.false _ c.valid_names-valid.ensures (not_from_false _ c.if-not-valid.true)

pub returns-then-extension-gt-MOST_FILE : goal.returns-then-extension-gt-MOST_FILE
returns-then-extension-gt-MOST_FILE c =
    bad_extension _ c.if-n-ne-EXTENSION_BYTES.false c.if-n-lt-LEAST_BYTES.false c.if-n-gt-MOST_BYTES.false _ c.valid_names-valid.ensures (not_from_true _ c.if-not-valid.false) c.if-extension-gt-MOST_FILE.true

pub returns : goal.returns
returns c =
    well_formed_lem _ c.if-n-ne-EXTENSION_BYTES.false c.if-n-lt-LEAST_BYTES.false c.if-n-gt-MOST_BYTES.false _ c.valid_names-valid.ensures (not_from_true _ c.if-not-valid.false) c.if-extension-gt-MOST_FILE.false _
    c.number_at-name.ensures.0
