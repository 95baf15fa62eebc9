-- The lines of an image: as many as files and directories, fewer than pages; found one after the other they are all.
use Rattle.std.specs.Prelude.{◌≡◌, refl, List, [], ◌∷◌, ◌++◌, ℕ, zero, suc, ◌+◌, ◌*◌, ◌≤◌, ◌<◌, length, take}
use Rattle.std.proofs.Common.{ap, sym, ◌∙◌, append_assoc, append-nil, arith, add-one, length-append}
use Rattle.geometry.specs.declared.Geometry.{Geometry}
use Rattle.rules.specs.declared.Line.{Line}
use Rattle.rules.specs.Result.{Res, ok, err}
use Rattle.rules.proofs.ResultLaws.{clash, ok_inj}
use Rattle.rules.proofs.PageSetLaws.{within_length}
use Rattle.rules.specs.Chain.{views_of}
use Rattle.rules.specs.Tree.{Items, end, page, file, dir, Image, used}
use Rattle.rules.specs.Check.{check}
use Rattle.rules.proofs.Soundness.{check_sound}
use Rattle.rules.specs.Owners.{file_count, directory_count}
use Rattle.rules.specs.Listing.{lines_of, line_at}
use Rattle.rules.specs.ListText.{line_text, lines_text}
use Rattle.text.specs.TextLaws.{line_short}
use Rattle.dump.specs.Prints.{lines_or, lines_in}

pub lines_count : (level : ℕ) (t : Items) → length (lines_of level t) ≡ file_count t + directory_count t
lines_count level end = refl
lines_count level (page p t) = lines_count level t
lines_count level (file l ls t) = omega (arith, lines_count level t)
lines_count level (dir l d t) = omega (arith, length-append (lines_of (suc level) d) (lines_of level t), lines_count (suc level) d, lines_count level t)

-- of an accepted image
pub lines_are : (g : Geometry) (image : List ℕ) (i : Image) → check g (views_of g image) ≡ ok i → lines_in g image ≡ lines_of 0 i.tree
unfolding lines_in
lines_are g image i e = ap lines_or e

pub lines_few : (g : Geometry) (image : List ℕ) → length (lines_in g image) ≤ g.pages
unfolding lines_in
lines_few g image = go (check g (views_of g image)) refl
  where
    go : (r : Res Image) → check g (views_of g image) ≡ r → length (lines_or r) ≤ g.pages
    go (ok i) e = let c = check_sound g (views_of g image) i e in omega (arith, lines_count 0 i.tree, within_length g.pages (used i) c.clear, c.room)
    go (err n p) e = omega arith

-- ---- one line after the other
pub line_below : (k : ℕ) (xs : List Line) (x : Line) → line_at k xs ≡ ok x → k < length xs
unfolding line_at
line_below k [] x e = clash e
line_below zero (y ∷ xs) x e = omega arith
line_below (suc k) (y ∷ xs) x e = omega (arith, line_below k xs x e)

one_more : (k : ℕ) (xs : List Line) (x : Line) → line_at k xs ≡ ok x → lines_text (take (suc k) xs) ≡ lines_text (take k xs) ++ line_text x
unfolding line_at
one_more k [] x e = clash e
one_more zero (y ∷ xs) x e = append-nil (line_text y) ∙ ap line_text (ok_inj e)
one_more (suc k) (y ∷ xs) x e = ap (λ (l : List ℕ). line_text y ++ l) (one_more k xs x e) ∙ sym (append_assoc (line_text y) (lines_text (take k xs)) (line_text x))

pub line_next : (k : ℕ) (xs : List Line) (x : Line) → line_at k xs ≡ ok x → lines_text (take (k + 1) xs) ≡ lines_text (take k xs) ++ line_text x
line_next k xs x e = rw (add-one k) (one_more k xs x e)

pub lines_end : (k : ℕ) (xs : List Line) → line_at k xs ≡ err 15 0 → take k xs ≡ xs
unfolding line_at
lines_end zero [] e = refl
lines_end (suc k) [] e = refl
lines_end zero (y ∷ xs) e = clash (sym e)
lines_end (suc k) (y ∷ xs) e = ap (λ (l : List Line). y ∷ l) (lines_end k xs e)

-- ---- no text is long
pub lines_short : (xs : List Line) → length (lines_text xs) ≤ 100 * length xs
lines_short [] = omega arith
lines_short (x ∷ xs) = omega (arith, length-append (line_text x) (lines_text xs), line_short x, lines_short xs)
