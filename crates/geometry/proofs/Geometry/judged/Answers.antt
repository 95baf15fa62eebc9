-- Page length below 32 or above 256, page count below 2 or above 65535: each is invalid for any lengths. Within these bounds the two lengths decide.
use Rattle.geometry.proofs.Shapes.{small_page, large_page, few_pages, many_pages}
use Rattle.geometry.proofs.Geometry.judged.Goals as goal

pub returns-then-size-lt-LEAST_SIZE : goal.returns-then-size-lt-LEAST_SIZE
returns-then-size-lt-LEAST_SIZE c = small_page _ _ _ _ c.if-size-lt-LEAST_SIZE.true

pub returns-then-size-gt-MOST_SIZE : goal.returns-then-size-gt-MOST_SIZE
returns-then-size-gt-MOST_SIZE c = large_page _ _ _ _ c.if-size-lt-LEAST_SIZE.false c.if-size-gt-MOST_SIZE.true

pub returns-then-pages-lt-LEAST_PAGES : goal.returns-then-pages-lt-LEAST_PAGES
returns-then-pages-lt-LEAST_PAGES c = few_pages _ _ _ _ c.if-size-lt-LEAST_SIZE.false c.if-size-gt-MOST_SIZE.false c.if-pages-lt-LEAST_PAGES.true

pub returns-then-pages-gt-MOST_PAGES : goal.returns-then-pages-gt-MOST_PAGES
returns-then-pages-gt-MOST_PAGES c =
    many_pages _ _ _ _ c.if-size-lt-LEAST_SIZE.false c.if-size-gt-MOST_SIZE.false c.if-pages-lt-LEAST_PAGES.false c.if-pages-gt-MOST_PAGES.true
