-- What a refusal tells, for every rule that judges one thing: its number lies between two bounds, and its page is below one.
use Rattle.std.specs.Prelude.{◌≡◌, Bool, ◌&&◌, List, [], ◌∷◌, ℕ, zero, suc, ◌≤◌, ◌<◌, T, leb}
use Rattle.std.proofs.Math.Path.{refl}
use Rattle.std.proofs.Common.{sym, subst, arith, leb-true}
use Rattle.std.proofs.Math.Bool.{true, false}
use Rattle.geometry.specs.declared.Geometry.{Geometry}
use Rattle.packet.specs.Packet.{Packet, bad, good, View}
use Rattle.rules.specs.declared.Entry.{Entry}
use Rattle.rules.specs.declared.Line.{Line}
use Rattle.rules.specs.Result.{Res, ok, err, and_then, and_after, refuse_unless}
use Rattle.rules.proofs.ResultLaws.{clash}
use Rattle.rules.specs.Chain.{packet_at, Test, any_page}
use Rattle.rules.specs.Tree.{Label, Items}
use Rattle.rules.specs.Control.{Parent, head_of, whole_entries, root_page, sub_page}
use Rattle.rules.specs.Check.{judge_label}
use Rattle.rules.specs.Listing.{line_at}
use Rattle.rules.specs.Paths.{Path, path_of, directory_path_of, directory_key, Found, nothing, a_file, a_directory, find, Place, step_down, directory_at, target_at, shown}
use Rattle.rules.specs.Format.{format}
use Rattle.rules.specs.Put.{writable}
use Rattle.rules.specs.Delete.{present}
use Rattle.rules.specs.Calls.{bytes_of}
use Rattle.rules.specs.Directories.{vacant, present_directory, shown_directory, without_entries}

-- a refusal's number is one of low to high, and the page told is below most
pub record Refuses {A : Type 0} (low high most : ℕ) (r : Res A) : Type 0 where
  pub number : (n p : ℕ) → r ≡ err n p → (low ≤ n) × (n ≤ high)
  pub page : (n p : ℕ) → r ≡ err n p → p < most

-- a test of the number, which computes
abbrev pub is_between : ℕ → ℕ → ℕ → Bool
is_between low n high = leb low n && leb n high

inside : (low n high : ℕ) → T (is_between low n high) → (low ≤ n) × (n ≤ high)
inside low n high h = go (leb low n) (leb n high) refl refl h
  where
    go : (a b : Bool) → leb low n ≡ a → leb n high ≡ b → T (a && b) → (low ≤ n) × (n ≤ high)
    go true true p q h = (leb-true low n p, leb-true n high q)
    go true false p q h = absurd h
    go false b p q h = absurd h

pub refuses_ok : {A : Type 0} {low high most : ℕ} {a : A} → Refuses low high most (ok a)
refuses_ok = record { number = λ n p e. clash (sym e); page = λ n p e. clash (sym e) }

module _ {low high most : ℕ} where
  pub refuses_with : {A : Type 0} {n p : ℕ} → (low ≤ n) × (n ≤ high) → p < most → Refuses {A = A} low high most (err n p)
  refuses_with {n = n} {p = p} h k = record {
    number = λ m q e. let i : n ≡ m = cc in subst (λ (x : ℕ). (low ≤ x) × (x ≤ high)) i h;
    page = λ m q e. let i : p ≡ q = cc in subst (λ (x : ℕ). x < most) i k;
  }

  pub refuses_err : {A : Type 0} {n p : ℕ} → T (is_between low n high) → p < most → Refuses {A = A} low high most (err n p)
  refuses_err {n = n} h k = refuses_with (inside low n high h) k

  pub refuses_then : {A B : Type 0} (r : Res A) (f : A → Res B) → Refuses low high most r → ((a : A) → r ≡ ok a → Refuses low high most (f a)) → Refuses low high most (and_then r f)
  unfolding and_then
  refuses_then (ok a) f h k = k a refl
  refuses_then (err n p) f h k = refuses_with (h.number n p refl) (h.page n p refl)

  pub refuses_unless : (t : Bool) (n p : ℕ) → T (is_between low n high) → p < most → Refuses low high most (refuse_unless t n p)
  unfolding refuse_unless
  refuses_unless true n p h k = refuses_ok
  refuses_unless false n p h k = refuses_err h k

  -- a test, then the rest
  pub refuses_test : {A : Type 0} (t : Bool) (n p : ℕ) (r : Res A) → T (is_between low n high) → p < most → Refuses low high most r → Refuses low high most (and_after (refuse_unless t n p) r)
  refuses_test t n p r h k j = refuses_then (refuse_unless t n p) (λ _. r) (refuses_unless t n p h k) (λ _ _. j)

  -- wider bounds
  pub refuses_within : {A : Type 0} {r : Res A} (low' high' most' : ℕ) → low' ≤ low → high ≤ high' → most ≤ most' → Refuses low high most r → Refuses low' high' most' r
  refuses_within low' high' most' p q s h = record {
    number = λ n m e. let i = h.number n m e in (omega (arith, i.0), omega (arith, i.1));
    page = λ n m e. omega (arith, h.page n m e);
  }

-- ---- the pages of a chain: a fault of page p tells p
module _ {most : ℕ} where
  pub packet_faults : (v : View) (p : ℕ) → p < most → Refuses 2 12 most (packet_at v p)
  packet_faults v p h = go (v p) refl
    where
      go : (k : Packet) → v p ≡ k → Refuses 2 12 most (packet_at v p)
      go bad e = unfold packet_at in rw e (refuses_err tt h)
      go (good b n) e = unfold packet_at in rw e refuses_ok

abbrev pub TestFaults : ℕ → Test → Type 0
TestFaults most test = (i p : ℕ) (b : List ℕ) → p < most → Refuses 2 12 most (test i p b)

pub any_faults : (most : ℕ) → TestFaults most any_page
unfolding any_page
any_faults most i p b h = refuses_ok

whole_faults : (g : Geometry) (most p : ℕ) (b : List ℕ) → p < most → Refuses 2 12 most (whole_entries g p b)
unfolding whole_entries
whole_faults g most p b h = refuses_unless _ 8 _ tt h

pub root_faults : (g : Geometry) (most : ℕ) → TestFaults most (root_page g)
unfolding root_page
root_faults g most zero p b h = whole_faults g most p _ h
root_faults g most (suc i) p b h = whole_faults g most p b h

pub sub_faults : (g : Geometry) (up : Parent) (most : ℕ) → TestFaults most (sub_page g up)
unfolding sub_page
sub_faults g up most zero p b h = refuses_test _ 4 _ _ tt h (refuses_test _ 3 _ _ tt h (refuses_test _ 4 _ _ tt h (whole_faults g most p _ h)))
sub_faults g up most (suc i) p b h = whole_faults g most p b h

pub head_faults : (g : Geometry) (most : ℕ) (b : List ℕ) → 0 < most → Refuses 2 12 most (head_of g b)
unfolding head_of
head_faults g most b h =
    refuses_test _ 4 _ _ tt h (refuses_test _ 3 _ _ tt h (refuses_test _ 5 _ _ tt h
    (refuses_test _ 4 _ _ tt h (refuses_test _ 4 _ _ tt h (refuses_test _ 4 _ _ tt h refuses_ok)))))

pub label_faults : (most p : ℕ) (e : Entry) → p < most → Refuses 2 12 most (judge_label p e)
unfolding judge_label
label_faults most p e h = refuses_test _ 9 _ _ tt h (refuses_unless _ 10 _ tt h)

-- ---- paths, read-only, room, output, hidden directories: 14 to 18 and 22 tell page 0
pub path_faults : (b : List ℕ) → Refuses 14 14 1 (path_of b)
unfolding path_of
path_faults b = let z : 0 < 1 = omega arith in refuses_test _ 14 _ _ tt z (refuses_test _ 14 _ _ tt z (refuses_test _ 14 _ _ tt z refuses_ok))

place_faults : (xs : List ℕ) (p : Place) → Refuses 15 15 1 (directory_at xs p)
place_faults [] p = unfold directory_at in refuses_ok
place_faults (x ∷ xs) p = go (find (directory_key x) p.items) refl (λ l d. place_faults xs (step_down p x l d))
  where
    go : (f : Found) → find (directory_key x) p.items ≡ f → ((l : Label) (d : Items) → Refuses 15 15 1 (directory_at xs (step_down p x l d))) → Refuses 15 15 1 (directory_at (x ∷ xs) p)
    go nothing e k = unfold directory_at in rw e (refuses_err tt (omega arith))
    go (a_file l ls) e k = unfold directory_at in rw e (refuses_err tt (omega arith))
    go (a_directory l d) e k = unfold directory_at in rw e (k l d)

pub directory_path_faults : (b : List ℕ) → Refuses 14 14 1 (directory_path_of b)
unfolding directory_path_of
directory_path_faults b = let z : 0 < 1 = omega arith in refuses_test _ 14 _ _ tt z (refuses_test _ 14 _ _ tt z refuses_ok)

pub target_faults : (asked : Res Path) (t : Items) → Refuses 14 14 1 asked → Refuses 14 15 1 (target_at asked t)
unfolding target_at
target_faults asked t h =
    refuses_then _ _ (refuses_within 14 15 1 (omega arith) (omega arith) (omega arith) h) λ q _.
    refuses_then _ _ (refuses_within 14 15 1 (omega arith) (omega arith) (omega arith) (place_faults q.directories _)) λ d _. refuses_ok

pub shown_faults : (p : Place) → Refuses 22 22 1 (shown p)
unfolding shown
shown_faults p = refuses_unless _ 22 _ tt (omega arith)

pub writable_faults : (f : Found) → Refuses 16 16 1 (writable f)
unfolding writable
writable_faults nothing = refuses_ok
writable_faults (a_file l ls) = refuses_unless _ 16 _ tt (omega arith)
writable_faults (a_directory l d) = refuses_ok

pub present_faults : (f : Found) → Refuses 15 15 1 (present f)
unfolding present
present_faults nothing = refuses_err tt (omega arith)
present_faults (a_file l ls) = refuses_ok
present_faults (a_directory l d) = refuses_err tt (omega arith)

pub vacant_faults : (f : Found) → Refuses 21 21 1 (vacant f)
unfolding vacant
vacant_faults nothing = refuses_ok
vacant_faults (a_file l ls) = refuses_err tt (omega arith)
vacant_faults (a_directory l d) = refuses_err tt (omega arith)

pub directory_faults : (f : Found) → Refuses 15 15 1 (present_directory f)
unfolding present_directory
directory_faults nothing = refuses_err tt (omega arith)
directory_faults (a_file l ls) = refuses_err tt (omega arith)
directory_faults (a_directory l d) = refuses_ok

pub hidden_faults : (f : Found) → Refuses 22 22 1 (shown_directory f)
unfolding shown_directory
hidden_faults nothing = refuses_ok
hidden_faults (a_file l ls) = refuses_ok
hidden_faults (a_directory l d) = refuses_unless _ 22 _ tt (omega arith)

pub entries_faults : (f : Found) → Refuses 20 20 1 (without_entries f)
unfolding without_entries
entries_faults nothing = refuses_ok
entries_faults (a_file l ls) = refuses_ok
entries_faults (a_directory l d) = refuses_unless _ 20 _ tt (omega arith)

pub bytes_faults : (f : Found) → Refuses 15 15 1 (bytes_of f)
unfolding bytes_of
bytes_faults nothing = refuses_err tt (omega arith)
bytes_faults (a_file l ls) = refuses_ok
bytes_faults (a_directory l d) = refuses_err tt (omega arith)

pub line_faults : (k : ℕ) (xs : List Line) → Refuses 15 15 1 (line_at k xs)
unfolding line_at
line_faults k [] = refuses_err tt (omega arith)
line_faults zero (x ∷ xs) = refuses_ok
line_faults (suc k) (x ∷ xs) = line_faults k xs

pub format_faults : (g : Geometry) (local : Bool) (image : List ℕ) → Refuses 4 4 1 (format g local image)
unfolding format
format_faults g local image = refuses_test _ 4 _ _ tt (omega arith) refuses_ok
