-- The bitmap file written page by page: the writes that are left give the whole, and the pages to come stand as they did.
use mathlib.Core.Bool.{true, false}
use Rattle.std.specs.Prelude.{Ok}
use mathlib.Core.Path.{◌≡◌, ap, ap₂, sym, ◌∙◌, subst}
use mathlib.Core.List.{List, [], ◌∷◌, ◌++◌}
use Prim.Native.Nat.{ℕ, ◌+◌, ◌*◌, ◌≤◌, ◌<◌}
use native.Mathlib.Omega.{arith}
use lib.ListN.{length, take, drop, length-append, length-take, length-drop}
use lib.Seq.{take_at, drop_at}
use Rattle.geometry.specs.declared.Geometry.{Geometry}
use Rattle.geometry.specs.Geometry.{Fit}
use Rattle.geometry.specs.Page.{page_of}
use Rattle.geometry.specs.PageLaws.{page_length}
use Rattle.packet.specs.Packet.{View, view_of, Write, write}
use Rattle.packet.specs.declared.Budget.{Budget}
use Rattle.packet.specs.Budgets.{Progress, Open, write_one, write_all}
use Rattle.packet.specs.BudgetLaws.{one_stopped, stopped_all}
use Rattle.packet.specs.Reading.{right_packet}
use Rattle.rules.specs.PageSets.{count, Once}
use Rattle.rules.proofs.PageSetLaws.{hit_same}
use Rattle.rules.specs.Chain.{Link, link, pages, first, content, linked}
use Rattle.rules.specs.Bitmap.{refill}
use Rattle.rules.proofs.BitmapLaws.{first_refill}
use Rattle.rules.specs.Owners.{OwnerRecord}
use Rattle.reading_theorems.specs.DirectoryComplete.{pages_fit}
use Rattle.editing_theorems.specs.AfterWrites.{write_pages, WriteFits}
use Rattle.editing_theorems.specs.BudgetedWrites.{one_fit, one_elsewhere}
use Rattle.editing_theorems.specs.HeldPackets.{pages_linked, packets_same}
use Rattle.chain.specs.declared.Cursor.{Cursor}
use Rattle.chain.specs.Steps.{first_step, step_of}
use Rattle.chain.proofs.Following.{Following, follow, Passed, passes, page_known, stepped, all_passed, follow_on}
use Rattle.marks.specs.Marks.{marks_from}
use Rattle.marks.specs.MarkLaws.{length_marks, marks_append, bytes_marks}
use Rattle.marks.specs.MapPages.{MapFileAt, file_writes}

-- before a page is written
pub record Writing (g : Geometry) (table : List OwnerRecord) (below total : ℕ) (target : Progress) (image : List ℕ) (budget : Budget) (c : Cursor) : Type 0 where
  pub fit : Fit g image
  pub more : List Link
  pub following : Following g (view_of g image) total c more
  pub once : Once (pages more)
  pub whole : target ≡ write_all g (linked (refill more (marks_from table below (8 * c.bytes) (length (content more))))) (record { image = image; budget = budget })
  pub open_still : Open budget

-- the bitmap file written whole
abbrev pub file_written : Geometry → List OwnerRecord → ℕ → List Link → List ℕ → Budget → Progress
file_written g table below ls image budget = write_all g (file_writes table below ls) (record { image = image; budget = budget })

pub write_first : (g : Geometry) (table : List OwnerRecord) (below start : ℕ) (c : Cursor) (ls : List Link) (image : List ℕ) (budget : Budget) → Fit g image → Open budget → c ≡ first_step start start
    → MapFileAt g (view_of g image) start ls → Writing g table below (length ls) (file_written g table below ls image budget) image budget c
write_first g table below start c ls image budget fit o e d =
    let b : c.bytes ≡ 0 = ap (λ (x : Cursor). x.bytes) e in
    let z : 0 ≡ 8 * c.bytes = omega arith in
    record {
      fit = fit;
      more = ls;
      following = follow g (view_of g image) start c ls e d.chain;
      once = d.once;
      whole = ap (λ (k : ℕ). write_all g (linked (refill ls (marks_from table below k (length (content ls))))) (record { image = image; budget = budget })) z;
      open_still = o;
    }

-- a chain's first write, and those that are left
refill_split : (table : List OwnerRecord) (below k p : ℕ) (b : List ℕ) (ls : List Link) → linked (refill (link p b ∷ ls) (marks_from table below k (length (b ++ content ls))))
    ≡ write p (marks_from table below k (length b)) (first ls) ∷ linked (refill ls (marks_from table below (k + 8 * length b) (length (content ls))))
refill_split table below k p b ls =
    let n = length b in
    let front = marks_from table below k n in
    let back = marks_from table below (k + 8 * n) (length (content ls)) in
    let e : marks_from table below k (length (b ++ content ls)) ≡ front ++ back = ap (marks_from table below k) (length-append b (content ls)) ∙ marks_append table below n (length (content ls)) k in
    let t : take n (marks_from table below k (length (b ++ content ls))) ≡ front = ap (take n) e ∙ take_at front back n (length_marks table below n k) in
    let d : drop n (marks_from table below k (length (b ++ content ls))) ≡ back = ap (drop n) e ∙ drop_at front back n (length_marks table below n k) in
    ap₂ (λ (x y : List ℕ). write p x (first (refill ls y)) ∷ linked (refill ls y)) t d ∙ ap (λ (q : ℕ). write p front q ∷ linked (refill ls back)) (first_refill ls back)

-- the pointer of a page fits
first_small : (N : ℕ) (ls : List Link) → 0 < N → ((x : ℕ) → 1 ≤ count x (pages ls) → x < N) → first ls < N
first_small N [] z h = z
first_small N (link p b ∷ ls) z h = h p (omega (arith, hit_same p))

-- ---- one page written
module _ {g : Geometry} {table : List OwnerRecord} {under total : ℕ} {target : Progress} {image : List ℕ} {budget : Budget} {c : Cursor} (W : Writing g table under total target image budget c)
    {size : ℕ} {d : Cursor} (o : Ok (size, d) ≡ step_of g (view_of g image) c) where
  abbrev v : View
  v = view_of g image

  below : c.page < g.pages
  below = (page_known g image W.fit total c W.more W.following).0

  pub page_room : (c.page < g.pages) × (size + g.width + 3 ≤ g.size)
  unfolding view_of
  page_room =
      let k = stepped g v c below size d o in
      let r = right_packet g.width c.page (page_of g c.page image) k.0 d.page k.1 in
      (below, omega (arith, r.room, k.2, page_length g image c.page W.fit below))

  -- the buffer has the bytes of the page at its front
  module _ (buffer : List ℕ) (l : length buffer ≡ 256) where
    pub part_there : size ≤ length buffer
    part_there = omega (arith, page_room.1, W.fit.valid.most)

    pub part_size_lem : length (take size buffer) ≡ size
    part_size_lem = length-take size buffer ∙ omega (arith, part_there)

    pub part_small : 8 * c.bytes + 8 * length (take size buffer) ≤ 1073741824
    part_small = omega (arith, W.following.counted.few, W.following.counted.small, part_size_lem, part_there)

    module _ (marks : List ℕ) (f : marks ≡ marks_from table under (8 * c.bytes) (length (take size buffer))) where
      length_is : length marks ≡ size
      length_is = ap length f ∙ length_marks table under (length (take size buffer)) (8 * c.bytes) ∙ part_size_lem

      pub buffer_kept : length (marks ++ drop size buffer) ≡ length buffer
      buffer_kept = omega (arith, length-append marks (drop size buffer), length_is, length-drop size buffer, part_there)

      pub data_is : take size (marks ++ drop size buffer) ≡ marks_from table under (8 * c.bytes) size
      data_is = take_at marks (drop size buffer) size length_is ∙ f ∙ ap (marks_from table under (8 * c.bytes)) part_size_lem

      pub data_size : length (take size (marks ++ drop size buffer)) ≡ size
      data_size = ap length data_is ∙ length_marks table under size (8 * c.bytes)

      pub data_there : size ≤ length (marks ++ drop size buffer)
      data_there = omega (arith, data_size, length-take size (marks ++ drop size buffer))

      pub data_room : (c.page < g.pages) × (length (take size (marks ++ drop size buffer)) + g.width + 3 ≤ g.size)
      data_room = (below, omega (arith, page_room.1, data_size))

      module _ (after : List ℕ) (left : Budget)
          (w : ◌≡◌ {A = Progress} (record { image = after; budget = left }) (write_one g (write c.page (take size (marks ++ drop size buffer)) d.page) (record { image = image; budget = budget }))) where
        abbrev b : List ℕ
        b = (passes g image W.fit total c W.more W.following size d o).0

        abbrev P : Passed c d W.more b
        P = (passes g image W.fit total c W.more W.following size d o).1

        long : length b ≡ size
        long = (passes g image W.fit total c W.more W.following size d o).2

        abbrev from : Progress
        from = record { image = image; budget = budget }

        -- the page's write, and what it leaves
        abbrev page_write : Write
        page_write = write c.page (marks_from table under (8 * c.bytes) size) d.page

        abbrev new : Progress
        new = write_one g (write c.page (marks_from table under (8 * c.bytes) size) d.page) (record { image = image; budget = budget })

        after_is : ◌≡◌ {A = Progress} (record { image = after; budget = left }) new
        after_is = w ∙ ap (λ (x : List ℕ). write_one g (write c.page x d.page) from) data_is

        number_is : P.number ≡ c.page
        number_is = ap first (sym P.split) ∙ W.following.chain.begins

        bytes_on : 8 * c.bytes + 8 * length b ≡ 8 * d.bytes
        bytes_on = let k : d.bytes ≡ c.bytes + length b = ap (λ (x : Cursor). x.bytes) P.on in omega arith

        write_is : write P.number (marks_from table under (8 * c.bytes) (length b)) (first P.others) ≡ page_write
        write_is = ap₂ (λ (p n : ℕ). write p (marks_from table under (8 * c.bytes) n) (first P.others)) number_is long ∙ ap (write c.page (marks_from table under (8 * c.bytes) size)) P.next

        to_come : target ≡ write_all g (linked (refill P.others (marks_from table under (8 * d.bytes) (length (content P.others))))) new
        unfolding write_all
        to_come =
            W.whole ∙ ap (λ (ls : List Link). write_all g (linked (refill ls (marks_from table under (8 * c.bytes) (length (content ls))))) from) P.split
            ∙ ap (λ (ws : List Write). write_all g ws from) (refill_split table under (8 * c.bytes) P.number b P.others)
            ∙ ap₂ (λ (x : Write) (k : ℕ). write_all g (linked (refill P.others (marks_from table under k (length (content P.others))))) (write_one g x from)) write_is bytes_on

        -- no write is left: the pages to come are not written
        pub written_stop : left.stopped ≡ true → ◌≡◌ {A = Progress} (record { image = after; budget = left }) target
        written_stop z =
            let q : new.budget.stopped ≡ true = ap (λ (x : Progress). x.budget.stopped) (sym after_is) ∙ z in
            after_is ∙ sym (to_come ∙ stopped_all g (linked (refill P.others (marks_from table under (8 * d.bytes) (length (content P.others))))) new (one_stopped g page_write from W.open_still q))

        pub written_all : d.page ≡ 0 → ◌≡◌ {A = Progress} (record { image = after; budget = left }) target
        unfolding write_all
        written_all z =
            let e = all_passed g image W.fit total c W.more W.following d b P z in
            after_is ∙ sym (to_come ∙ ap (λ (ls : List Link). write_all g (linked (refill ls (marks_from table under (8 * d.bytes) (length (content ls))))) new) e)

        -- the pages after it stand as before
        fits : WriteFits g c.page (marks_from table under (8 * c.bytes) size) d.page
        fits =
            let u = first_small g.pages P.others (omega (arith, W.fit.valid.some))
            (λ x h. W.following.chain.within x (omega (arith, ap (λ (ls : List Link). count x (pages ls)) P.split))) in
            record {
              below = below;
              room = omega (arith, page_room.1, length_marks table under size (8 * c.bytes));
              pointer = omega (arith, u, P.next, pages_fit g W.fit.valid);
              bytes = bytes_marks table under size (8 * c.bytes);
            }

        once_more : (x : ℕ) → count x (pages W.more) ≡ count x (P.number ∷ pages P.others)
        once_more x = ap (λ (ls : List Link). count x (pages ls)) P.split

        elsewhere : (x : ℕ) → 1 ≤ count x (write_pages (linked P.others)) → view_of g new.image x ≡ view_of g image x
        elsewhere x h = one_elsewhere g c.page (marks_from table under (8 * c.bytes) size) d.page fits from W.fit W.open_still x
            (λ e. omega (arith, W.once x, once_more x, ap (count x) (pages_linked P.others), hit_same x, ap (λ (y : ℕ). count x (y ∷ pages P.others)) (number_is ∙ sym e)))

        pub write_on : left.stopped ≡ false → (d.page ≡ 0 → ⊥) → total ≤ g.pages → Writing g table under total target after left d
        write_on still z u = subst (λ (x : Progress). Writing g table under total target x.image x.budget d) (sym after_is)
            (let F = follow_on g image W.fit total c W.more W.following d b P z u in
            let h = F.chain in
            record {
              fit = one_fit g c.page (marks_from table under (8 * c.bytes) size) d.page fits from W.fit W.open_still;
              more = P.others;
              following = record {
                chain = record {
                  some = h.some;
                  begins = h.begins;
                  packets = packets_same (view_of g image) (view_of g new.image) (linked P.others) elsewhere h.packets;
                  within = h.within;
                  few = h.few;
                  onward = h.onward;
                };
                steps = F.steps;
                counted = F.counted;
              };
              once = λ x. omega (arith, W.once x, once_more x);
              whole = to_come;
              open_still = ap (λ (x : Progress). x.budget.stopped) (sym after_is) ∙ still;
            })
