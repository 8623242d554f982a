-- Laws of the rules that no definition and no contract cites.
pub mod BatchLaws
