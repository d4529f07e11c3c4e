-- What a read and a write show of the stream behind them. Assumes nothing.

use Rattle.std.proofs.Common.{◌≡◌, ◌+◌, ℕ, List, length, take, true, false, sym, ◌∙◌, true≢false}
use Rattle.io.specs.Counts.{IsPrefixLen}
use Rattle.capped.specs.Capped.{capped}
use Rattle.streams.specs.declared.Stream.{Stream}
use Rattle.streams.specs.Stream.{Through, counted, Wrote}

-- so many bytes came
pub came : (from : Stream) (part : List ℕ) (n : ℕ) (s' : Stream) → IsPrefixLen n part → s'.count ≡ capped (from.count + n)
    → Through from (take n part) s'
came from part n s' c e = counted from (take n part) s' (e ∙ rw (← c.1))

-- nothing was written to a stream that had failed; and bytes were written
pub stays : (to : Stream) (bytes : List ℕ) → to.failed ≡ true → Wrote to bytes to
stays to bytes t = record { went = λ e. absurd (true≢false (sym t ∙ e)); sound = λ e. e }

pub written : (to : Stream) (bytes : List ℕ) (s' : Stream) → to.failed ≡ false → s'.count ≡ capped (to.count + length bytes)
    → Wrote to bytes s'
written to bytes s' f e = record { went = λ _. counted to bytes s' e; sound = λ _. f }
