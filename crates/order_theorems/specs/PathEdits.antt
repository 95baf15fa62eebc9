-- An edit changes what is seen at one path; two edits of different paths then leave the same to be seen at every path, in either order.
use Rattle.std.specs.Prelude.{◌≡◌, refl, List, [], ℕ}
use Rattle.std.proofs.Common.{ap, ap₂, sym, ◌∙◌}
use Rattle.geometry.specs.declared.Geometry.{Geometry}
use Rattle.rules.specs.declared.Entry.{Entry}
use Rattle.rules.specs.Result.{Res, ok, err}
use Rattle.rules.specs.Tree.{Label, width, Image}
use Rattle.rules.specs.Paths.{Path, Found, nothing, a_file, a_directory, path_of}
use Rattle.rules.specs.Candidate.{at_path, stamps_of, target_path, file_path}
use Rattle.rules.specs.Calls.{bytes_of}
use Rattle.rules.specs.Demand2.{IsFile, Deleted, PutDone}
use Rattle.editing_theorems.specs.PathChanges.{same_path}
use Rattle.editing_theorems.specs.FullPages.{width_found}
use Rattle.order_theorems.specs.EitherOrder.{FileEdit, a_put, a_delete, Seen, no_entry, file_seen, directory_seen, seen}
use Rattle.order_theorems.specs.ShownSeen.{seen_same}

-- ---- what is seen decides stamps, slots and what a read answers
abbrev pub stamps_seen : Seen → List Entry
stamps_seen no_entry = []
stamps_seen (file_seen l bytes) = l.stamps
stamps_seen (directory_seen l) = l.stamps

pub stamps_seen_lem : (f : Found) → stamps_of f ≡ stamps_seen (seen f)
stamps_seen_lem nothing = refl
stamps_seen_lem (a_file l ls) = refl
stamps_seen_lem (a_directory l d) = refl

abbrev pub width_seen : Seen → ℕ
width_seen no_entry = 0
width_seen (file_seen l bytes) = width l
width_seen (directory_seen l) = width l

pub width_seen_lem : (f : Found) → width_found f ≡ width_seen (seen f)
width_seen_lem nothing = refl
width_seen_lem (a_file l ls) = refl
width_seen_lem (a_directory l d) = refl

abbrev read_seen : Seen → Res (List ℕ)
read_seen no_entry = err 15 0
read_seen (file_seen l bytes) = ok bytes
read_seen (directory_seen l) = err 15 0

read_seen_lem : (f : Found) → bytes_of f ≡ read_seen (seen f)
unfolding bytes_of
read_seen_lem nothing = refl
read_seen_lem (a_file l ls) = refl
read_seen_lem (a_directory l d) = refl

pub same_bytes : (f h : Found) → seen f ≡ seen h → bytes_of f ≡ bytes_of h
same_bytes f h e = read_seen_lem f ∙ ap read_seen e ∙ sym (read_seen_lem h)

-- ---- one edit: at its path what `change` makes of what was seen there, at every other path the same
pub record Edits (path : List ℕ) (change : Seen → Seen) (i j : Image) : Type 0 where
  pub at : seen (at_path path j) ≡ change (seen (at_path path i))
  pub others : (ks : List ℕ) → (ks ≡ path → ⊥) → seen (at_path ks j) ≡ seen (at_path ks i)

pub in_either_order : (p q : List ℕ) → (p ≡ q → ⊥) → (f h : Seen → Seen) (i a ab b ba : Image) → Edits p f i a → Edits q h a ab → Edits q h i b → Edits p f b ba
    → (ks : List ℕ) → seen (at_path ks ab) ≡ seen (at_path ks ba)
in_either_order p q n f h i a ab b ba ea eab eb eba ks = same_path ks p
    (λ e. rw e (eab.others p n ∙ ea.at ∙ sym (eba.at ∙ ap f (eb.others p n))))
    (λ m. same_path ks q
    (λ e. rw e (eab.at ∙ ap h (ea.others q (λ r. n (sym r))) ∙ sym (eba.others q (λ r. n (sym r)) ∙ eb.at)))
    (λ k. eab.others ks k ∙ ea.others ks m ∙ sym (eba.others ks m ∙ eb.others ks k)))

-- a put gives the path's name and extension byte, the stamps that stood there, and the bytes; a delete leaves nothing
abbrev pub change_by : FileEdit → Path → Seen → Seen
change_by (a_put path bytes) q s = file_seen (record { name = q.name; extension = q.extension; stamps = stamps_seen s }) bytes
change_by (a_delete path) q s = no_entry

label_of : (l : Label) (n x : ℕ) (ss : List Entry) → l.name ≡ n → l.extension ≡ x → l.stamps ≡ ss → l ≡ record { name = n; extension = x; stamps = ss }
label_of l n x ss e f h = rw (← e, ← f, ← h) refl

pub put_edits : (g : Geometry) (path bytes image now : List ℕ) (p : PutDone g (path_of path) a_file (λ _. bytes) image now)
    → Edits (file_path p.at.to) (change_by (a_put path bytes) p.at.to) p.at.before p.tree
put_edits g path bytes image now p =
    let s = p.shows in
    let l = label_of s.label p.at.to.name p.at.to.extension _ s.name_is s.extension_is (s.stamps_are ∙ stamps_seen_lem (at_path (file_path p.at.to) p.at.before)) in
    record {
      at = ap seen s.standing ∙ ap₂ file_seen l s.reads;
      others = λ ks n. same_path ks (target_path p.at.to)
          (λ e. rw e (ap seen s.target_after ∙ sym (ap seen s.target_before)))
          (λ m. seen_same g image now p.at.before p.tree p.at.accepted p.done.well_formed ks (s.others ks n m));
    }

pub delete_edits : (g : Geometry) (path image now : List ℕ) (p : Deleted g (path_of path) IsFile image now)
    → Edits (file_path p.at.to) (change_by (a_delete path) p.at.to) p.at.before p.tree
delete_edits g path image now p = record { at = ap seen p.shows.gone; others = λ ks n. seen_same g image now p.at.before p.tree p.at.accepted p.done.well_formed ks (p.shows.others ks n) }
