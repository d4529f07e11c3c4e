-- The page of a pair: where it is, the request, the two replies side by side, and where they differ. Assumes nothing.
use Rattle.std.specs.Prelude.{List, ◌++◌, ℕ}
use Rattle.shown.specs.entries.Entry.{title_of}
use Rattle.shown.specs.Text.{newline}
use Rattle.shown.specs.Asked.{request_text}
use Rattle.shown.specs.Replied.{table_text, end_text}

unfoldable pub shown_page : ℕ → ℕ → List ℕ → List ℕ → List ℕ → List ℕ
shown_page number offset request recorded now =
    title_of number offset ++ newline ++ request_text request ++ table_text recorded now ++ end_text recorded now
