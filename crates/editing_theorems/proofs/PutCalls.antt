-- The calls that put something: a put, and the making of a directory.
use Rattle.std.specs.Prelude.{◌≡◌, refl, List, ℕ, length}
use Rattle.std.proofs.Common.{ap, sym, ◌∙◌, arith, eqb-true, eq-eqb}
use Rattle.geometry.specs.declared.Geometry.{Geometry}
use Rattle.geometry.specs.Geometry.{Valid, data_capacity}
use Rattle.geometry.specs.Number.{Bytes}
use Rattle.rules.specs.Result.{ok}
use Rattle.rules.proofs.ResultLaws.{clash, refuse_inv, refuse_true}
use Rattle.rules.specs.Chain.{Link, pages_for}
use Rattle.rules.proofs.ChainLaws.{pages_least}
use Rattle.rules.specs.Names.{attribute}
use Rattle.rules.specs.Tree.{Label}
use Rattle.rules.specs.Control.{Parent, sub_control}
use Rattle.rules.specs.Paths.{path_of, directory_path_of, file_key, Found, nothing, a_file, a_directory, find}
use Rattle.rules.specs.Put.{writable, put_target}
use Rattle.rules.specs.Directories.{vacant, make_target, new_directory}
use Rattle.rules.proofs.TargetLaws.{reached, target_is, put_target_is, put_met, make_target_is, make_met}
use Rattle.rules.proofs.CallLaws.{put_target_room, make_target_room}
use Rattle.rules.specs.Candidate.{NotReadOnly, Absent, PutFile, EmptyDirectory}
use Rattle.rules.specs.Demand2.{empty_directory}
use Rattle.reading_theorems.specs.ControlLaws.{control_size_lem}
use Rattle.reading_theorems.specs.SubControlLaws.{length_sub}
use Rattle.editing_theorems.specs.Capacity.{capacity_least}
use Rattle.editing_theorems.specs.MapWrites.{sub_bytes}
use Rattle.editing_theorems.specs.FormedPaths.{formed, formed_directory}
use Rattle.editing_theorems.specs.PutDirectory.{as_file, as_directory}
use Rattle.editing_theorems.specs.LowerBound.{file_needs, directory_needs}
use Rattle.editing_theorems.proofs.PutDone.{PutCall}

-- ---- read-only
writable_ok : (f : Found) → ((l : Label) (ls : List Link) → f ≡ a_file l ls → attribute l.extension ≡ 0) → writable f ≡ ok tt
unfolding writable
writable_ok nothing h = refl
writable_ok (a_file l ls) h = simp (eq-eqb (attribute l.extension) 0 (h l ls refl), refuse_true)
writable_ok (a_directory l d) h = refl

pub writable_inv : (f : Found) (u : Unit {0}) → writable f ≡ ok u → (l : Label) (ls : List Link) → f ≡ a_file l ls → attribute l.extension ≡ 0
unfolding writable
writable_inv nothing u e l ls q = absurd (let z : ◌≡◌ {A = ℕ} 0 1 = cc in omega arith)
writable_inv (a_file m ms) u e l ls q = let i : m ≡ l = cc in ap (λ (n : Label). attribute n.extension) (sym i) ∙ eqb-true _ _ (refuse_inv _ _ _ _ e)
writable_inv (a_directory m d) u e l ls q = absurd (let z : ◌≡◌ {A = ℕ} 0 1 = cc in omega arith)

-- ---- a put
pub a_put_lem : (path bytes : List ℕ) → Bytes path → Bytes bytes → PutCall (path_of path) NotReadOnly (PutFile bytes) (put_target path) (λ _ _. bytes) a_file
a_put_lem path bytes p b = record {
  given = λ t x m. put_target_is path t x (target_is (path_of path) t x.to m.formed x.place m.there) m.seen (writable_ok (find (file_key x.to) x.place.items) m.allowed);
  met = λ t x e.
      let m = put_met path t x e in
      let r = reached (path_of path) t x m.at in
      record { formed = r.formed; there = r.there; seen = m.seen; allowed = writable_inv (find (file_key x.to) x.place.items) tt m.may };
  not_room = λ t e. put_target_room path t 0 e;
  valid = λ x e. (formed path x.to e).valid;
  four = λ x e. (formed path x.to e).four p;
  are_bytes = λ g v q. b;
  enters = λ g t x m. as_file (formed path x.to m.formed).extension m.allowed refl;
  wanted = λ g q l ls e. e;
  needs = λ g v q. file_needs g v bytes;
}

-- ---- a making
vacant_inv : (f : Found) (u : Unit {0}) → vacant f ≡ ok u → f ≡ nothing
unfolding vacant
vacant_inv nothing u e = refl
vacant_inv (a_file l ls) u e = clash e
vacant_inv (a_directory l d) u e = clash e

vacant_ok : (f : Found) → f ≡ nothing → vacant f ≡ ok tt
unfolding vacant
vacant_ok f e = rw e refl

-- its control field takes one page
one_page : (g : Geometry) → Valid g → (up : Parent) → pages_for (data_capacity g) (length (sub_control g.width up)) ≡ 1
one_page g v up =
    let c = capacity_least g v in
    let n = length_sub g up in
    omega (arith, pages_least (data_capacity g) (length (sub_control g.width up)) 1 (omega (arith, c)) (omega arith) (omega (arith, c, n, control_size_lem g, v.two)))

pub a_making : (path : List ℕ) → Bytes path → PutCall (directory_path_of path) Absent EmptyDirectory (make_target path) new_directory empty_directory
a_making path p = record {
  given = λ t x m. make_target_is path t x (target_is (directory_path_of path) t x.to m.formed x.place m.there) m.seen (vacant_ok (find (file_key x.to) x.place.items) m.allowed);
  met = λ t x e.
      let m = make_met path t x e in
      let r = reached (directory_path_of path) t x m.at in
      record { formed = r.formed; there = r.there; seen = m.seen; allowed = vacant_inv (find (file_key x.to) x.place.items) tt m.may };
  not_room = λ t e. make_target_room path t 0 e;
  valid = λ x e. (formed_directory path x.to e).valid;
  four = λ x e. (formed_directory path x.to e).four p;
  are_bytes = λ g v q. sub_bytes g q.here v;
  enters = λ g t x m. let f = formed_directory path x.to m.formed in as_directory f.extension f.few refl m.allowed refl;
  wanted = λ g q l ls e. refl;
  needs = λ g v q. rw (one_page g v q.here) (directory_needs g);
}
