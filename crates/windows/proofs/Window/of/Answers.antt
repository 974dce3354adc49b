-- `windows::Window::of` meets its contract: each side is the signed number at its place. Assumes nothing.
use Rattle.numbers.proofs.Coordinates.{read_back}
use Rattle.windows.specs.Windows.{window_of}
use Rattle.windows.proofs.Window.of.Goals as goal

pub returns : goal.returns
unfolding window_of
returns c =
    λ i. record {
      left = read_back c.i32_at.type_inv c.i32_at.ensures i;
      bottom = read_back c.i32_at-2.type_inv c.i32_at-2.ensures i;
      right = read_back c.i32_at-3.type_inv c.i32_at-3.ensures i;
      top = read_back c.i32_at-4.type_inv c.i32_at-4.ensures i;
    }
