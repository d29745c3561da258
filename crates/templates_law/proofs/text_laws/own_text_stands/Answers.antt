use Rattle.templates_law.proofs.Text.Whole.{has_opening, has_runtime, text_in_order, text_assembles, assembled_fits, text_too_large}
use Rattle.templates_law.proofs.Text.Lines.{text_written, text_has_end, text_has_reader, text_coded, text_data_coded}
use Rattle.templates_law.proofs.Text.Cells.{data_stand}
use Rattle.templates.specs.Style.{styled}
use Rattle.templates_law.proofs.text_laws.own_text_stands.Goals as goal

pub returns : goal.returns
returns c =
    let cuts = c.blocks_cut_the_program.ensures in
    record {
      stands = λ s p is. record {
        reads_back = c.written_text_reads_back.ensures (styled s p) (text_written s p is (cuts p is)) (text_in_order s p is (cuts p is)) (text_has_end s p);
        coded = text_coded s p is (cuts p is);
        data_coded = text_data_coded s p is (cuts p is);
        opening = has_opening s p is;
        runtime = has_runtime s p;
        data_stand = data_stand s p is (cuts p is) c.cells_are_sorted.ensures.stay;
      };
      assembles = λ s p is. text_assembles s p is (cuts p is);
      assembles_exactly = λ s p is. assembled_fits s p is (cuts p is);
      too_large = λ s p is. text_too_large s p is (cuts p is);
      reader = λ s p is jumps fits. text_has_reader s p is (cuts p is) (text_assembles s p is (cuts p is) jumps fits);
    }
